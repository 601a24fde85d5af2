-- What the calls of a fifo without a bound need of its steps.
use Rattle.std.proofs.Common.{◌≡◌, ◌≢◌, ℕ, ◌<◌, ◌==◌, Bool, true, false, List, [], ◌∷◌, ◌++◌, length, drop, get_or, sym, refl, ap, ◌∙◌, subst, inl, inr, append-nil, eq-eqb, ne_eqb}
use Rattle.std.specs.Prelude.{MatchBool, MatchOption, if◌then◌else◌, Option, None, Some}
use mathlib.Core.Logic.{dite}
use mathlib.Core.Option.{none}
use native.Mathlib.Decide.{ℕ_discrete}
use Rattle.atomic_table.specs.Table.{Me, step, rest, Allows}
use Rattle.crossbeam_queue.specs.Fifo.{Held}
use Rattle.mb_msg.specs.declared.envelope.Envelope.{Envelope}
use Rattle.mb_queue.specs.declared.known.Known.{Known}
use Rattle.mb_queue.specs.declared.ledger.Ledger.{Ledger}
use Rattle.std.proofs.lemmas.List.Elements.{All-cons, All-nil}
use Rattle.mb_queue.specs.Batches.{pushing_all, taking_all, FoundAll, FoundBatch}
use Rattle.mb_queue.specs.Rule.{Belongs, FifoAllOut, FoundEmpty, FoundNext}
use Rattle.mb_queue.specs.declared.ledger.Ledger.TheVariants.{Sender, Taker, Spent}
use Rattle.mb_queue.specs.Ledger.{joining, taking, IsSender, IsTaker, MayPush}
use Rattle.mb_queue.specs.ListRule.{Envelopes, ListHolds, having_locked, unlocked}
use Rattle.mb_queue.specs.ListSteps.{had, has, TakesAll, Unlocks}
use Rattle.mb_queue.proofs.ListSteps.{drop_past, empties, unlocks}
use Rattle.mb_queue.proofs.Moves.{MayPushThese}

abbrev M : Type 0
M = Me Envelopes Known

-- the two answers of a try
pub locked_or_not : (found : ℕ) (won lost : Type 0) → (found ≢ 1 → won) → (found ≡ 1 → lost) → MatchBool (found == 1) lost won
locked_or_not found won lost hit miss = dite (ℕ_discrete found 1)
    (λ e. subst (λ b. MatchBool b lost won) (sym (eq-eqb found 1 e)) (miss e))
    (λ n. subst (λ b. MatchBool b lost won) (sym (ne_eqb found 1 n)) (hit n))

pub when_true : (won lost : Type 0) (b : Bool) → b ≡ true → MatchBool b won lost → won
when_true won lost b e h = subst (λ b. MatchBool b won lost) e h

-- a pass that has nothing locked
pub at_rest : (me : M) (ledger : Ledger) → me ≡ (unlocked ledger, []) → me ≡ (unlocked me.0.ledger, [])
at_rest me ledger is = is ∙ sym (ap (λ (v : M). (unlocked v.0.ledger, [])) is)

-- what was pushed, if it was
abbrev pub if_pushed : Bool → Envelope → List Envelope
if_pushed b e = if b then e ∷ [] else []

pub pushed_is : (b : Bool) (xs ys : List Envelope) (e : Envelope) → ys ≡ (if b then xs ++ e ∷ [] else xs) → ys ≡ xs ++ if_pushed b e
pushed_is true xs ys e h = h
pushed_is false xs ys e h = h ∙ sym (append-nil xs)

pub may_push_it : (b : Bool) (e : Envelope) (v : Ledger) → MayPush e v → MayPushThese (if_pushed b e) v
may_push_it true e v may = inr (e, refl, may)
may_push_it false e v may = inl refl

-- the list that it has locked is the one that is out with it
pub carried_is : (x : Envelopes) (old mid : M) → mid ≡ (having_locked x.items old.0, (0, x) ∷ old.1) → mid.1 ≡ (0, x) ∷ rest mid.1
carried_is x old mid locked = ap (λ (v : M). v.1) locked ∙ ap (λ (l : List (ℕ × Envelopes)). (0, x) ∷ l) (sym (ap (λ (v : M). rest v.1) locked))

module _ (slots id : ℕ) (few : 0 < slots) (old mid m : M) (x : Envelopes) (locked : mid ≡ (having_locked x.items old.0, (0, x) ∷ old.1)) (z : Envelopes)
    (value : mid.1 ≡ (0, z) ∷ rest mid.1) (y : Envelopes) (now : m ≡ (mid.0, (0, y) ∷ rest mid.1)) (ledger : Ledger) (was : old ≡ (unlocked ledger, [])) where
  same_list : z ≡ x
  same_list = ap (λ (l : List (ℕ × Envelopes)). (get_or l 0 (0, z)).1) (sym value ∙ ap (λ (v : M). v.1) locked)

  m_is : m ≡ (having_locked x.items (unlocked ledger), (0, y) ∷ [])
  m_is = now ∙ ((λ i. ((locked i).0, (0, y) ∷ rest (locked i).1)) ∙ (λ i. (having_locked x.items (was i).0, (0, y) ∷ (was i).1)))

  module _ (es : List Envelope) (more : y.items ≡ z.items ++ es) where
    more' : y.items ≡ x.items ++ es
    more' = more ∙ ap (λ (b : Envelopes). b.items ++ es) same_list

    pub push_allowed : MayPushThese es ledger → Allows ListHolds slots id m 0 (λ _. 2) (λ _. Unlocks (step slots 0 2 0 none) m 2)
    push_allowed may = unlocks slots id few m x.items (ap (λ (v : M). v.0.locked) m_is) y [] (ap (λ (v : M). v.1) m_is) es more'
        (subst (MayPushThese es) (sym (ap (λ (v : M). v.0.ledger) m_is)) may)

    pub push_told : (after : M) → Unlocks (step slots 0 2 0 none) m 2 after → after ≡ (unlocked (pushing_all ledger es), [])
    push_told after told =
        told
        ∙ ((λ i. (unlocked (pushing_all (m_is i).0.ledger (drop (length (had (m_is i).0.locked)) (has (m_is i).1))), rest (m_is i).1))
        ∙ (λ i. (unlocked (pushing_all ledger ((ap (drop (length x.items)) more' ∙ drop_past x.items es) i)), [])))

  pub take_allowed : y.items ≡ [] → IsTaker ledger → Allows ListHolds slots id m 0 (λ _. 0) (λ _. TakesAll (step slots 0 0 0 none) m 0)
  take_allowed none_left taker = empties slots id few m x.items (ap (λ (v : M). v.0.locked) m_is) y [] (ap (λ (v : M). v.1) m_is) none_left
      (subst IsTaker (sym (ap (λ (v : M). v.0.ledger) m_is)) taker)

  out : had m.0.locked ≡ z.items
  out = ap (λ (v : M). had v.0.locked) m_is ∙ ap (λ (b : Envelopes). b.items) (sym same_list)

  pub take_told : (after : M) → TakesAll (step slots 0 0 0 none) m 0 after → after ≡ (unlocked (taking_all ledger z.items), [])
  take_told after told = told.0 ∙ (λ i. (unlocked (taking_all (m_is i).0.ledger (out i)), rest (m_is i).1))

  pub take_found : (after : M) → TakesAll (step slots 0 0 0 none) m 0 after → FoundAll ledger z.items
  take_found after told = subst (λ (v : Ledger × List Envelope). FoundAll v.0 v.1) (λ i. ((m_is i).0.ledger, out i)) told.1

-- a taker takes after a join too
pub joined_takes : (v w : Ledger) → IsTaker v → IsSender w → IsTaker (joining v w)
joined_takes (Sender scope by pushed) w is by_s = absurd is
joined_takes (Taker scope taken accounts) (Sender scope' by pushed) is by_s = tt
joined_takes (Taker scope taken accounts) (Taker scope' taken' accounts') is by_s = absurd by_s
joined_takes (Taker scope taken accounts) Spent is by_s = absurd by_s
joined_takes Spent w is by_s = absurd is

taking_one : (v : Ledger) (e : Envelope) → taking v e ≡ taking_all v (e ∷ [])
taking_one (Sender scope by pushed) e = refl
taking_one (Taker scope taken accounts) e = refl
taking_one Spent e = refl

-- what a take of all found, by how much it was

pub found_none : (v : Ledger) → FoundAll v [] → FoundEmpty v
found_none (Sender scope by pushed) found = absurd found
found_none (Taker scope taken accounts) found = subst (FifoAllOut accounts) (append-nil taken) found.1
found_none Spent found = absurd found

pub taking_none : (v : Ledger) → taking_all v [] ≡ v
taking_none (Sender scope by pushed) = refl
taking_none (Taker scope taken accounts) = ap (λ (l : List Envelope). Taker scope l accounts) (append-nil taken)
taking_none Spent = refl

pub found_batch : (v : Ledger) (es : List Envelope) → FoundAll v es → FoundBatch v es
found_batch (Sender scope by pushed) es found = absurd found
found_batch (Taker scope taken accounts) es found = (found.0, λ s pushed its. ([], found.1 s pushed its ∙ sym (append-nil _)))
found_batch Spent es found = absurd found

pub found_one : (v : Ledger) (e : Envelope) → FoundNext v e → FoundBatch v (e ∷ [])
found_one (Sender scope by pushed) e found = absurd found
found_one (Taker scope taken accounts) e found = (All-cons (Belongs scope) e [] found.0 (All-nil (Belongs scope)), found.1)
found_one Spent e found = absurd found

-- a take of all, and then of the first
pub first_of_all : (v v0 v' : Ledger) (all left : List Envelope) (result : Option Envelope) → v0 ≡ v → v' ≡ taking_all v0 all → FoundAll v0 all
    → MatchOption result ((all ≡ []) × (left ≡ [])) (λ e. all ≡ e ∷ left)
    → MatchOption result ((v' ≡ v) × (left ≡ []) × FoundEmpty v) (λ e. (v' ≡ taking_all v (e ∷ left)) × FoundBatch v (e ∷ left))
first_of_all v v0 v' all left None same taken found gave = (
  taken ∙ (λ i. taking_all (same i) (gave.0 i)) ∙ taking_none v,
  gave.1,
  found_none v (subst (λ (y : Ledger × List Envelope). FoundAll y.0 y.1) (λ i. (same i, gave.0 i)) found),
)
first_of_all v v0 v' all left (Some e) same taken found gave = (
  taken ∙ (λ i. taking_all (same i) (gave i)),
  found_batch v (e ∷ left) (subst (λ (y : Ledger × List Envelope). FoundAll y.0 y.1) (λ i. (same i, gave i)) found),
)

-- a take of one
pub takes_one : (v v' : Ledger) (result : Option Envelope)
    → MatchOption result ((v' ≡ v) × Held 0 (λ (items : List Envelope). length items ≡ 0 → FoundEmpty v)) (λ e. (v' ≡ taking v e) × FoundNext v e)
    → MatchOption result ((v' ≡ v) × FoundEmpty v) (λ e. (v' ≡ taking_all v (e ∷ [])) × FoundBatch v (e ∷ []))
takes_one v v' None took = (took.0, took.1.2 took.1.1)
takes_one v v' (Some e) took = (took.0 ∙ taking_one v e, found_one v e took.1)
