-- Two ways to give a cell home tell the pass the same.
use Rattle.std.proofs.Common.{◌≡◌, ◌≢◌, ⊎_elim, ℕ, Bool, true, false, ◌||◌, List, ◌∷◌, ◌++◌, sym, refl, ap, ◌∙◌, subst, arith}
use mathlib.Core.Logic.{dite}
use native.Mathlib.Decide.{ℕ_discrete}
use Rattle.mb_journal.specs.Entry.{Entry}
use Rattle.mb_core.specs.declared.wake_obligation.WakeObligation.{WakeObligation}
use Rattle.mb_ghost.specs.Summed.{total}
use Rattle.mb_ghost.proofs.SummedLemmas.{total_append}
use Rattle.mb_gate.specs.View.{View, Observation, Saw, Release, obligation_to, either_obligation, taken_journal, idling, taking_in, taking_over}
use Rattle.mb_gate.specs.Rule.{IsAmong}
use Rattle.mb_gate.specs.Waiting.{counted_on, counted_off}
use Rattle.mb_gate.specs.Releases.{taken_in_release, back_in_release}
use Rattle.mb_gate.specs.Shown.{ReleasesAlike}
use Rattle.mb_gate.proofs.Numbers.{among_first, among_more, among_left, among_right}
use Rattle.mb_gate.proofs.OneNumber.{first_or_rest, among_either}
use Rattle.mb_gate.proofs.Views.{owes_here, owes_else}
use Rattle.mb_gate.proofs.SplitsAndJoins.{obligation_by-added}

-- two lists in either order have the same in them
swapped : (s x : Observation) (a b : List Observation) → IsAmong s (x ∷ (a ++ b)) → IsAmong s (x ∷ (b ++ a))
swapped s x a b is = ⊎_elim (λ e. subst (λ z. IsAmong z (x ∷ (b ++ a))) e (among_first x (b ++ a)))
    (λ rest. among_more s x (b ++ a) (⊎_elim (λ l. among_right s b a l) (λ r. among_left s b a r) (among_either s a b rest)))
    (first_or_rest s x (a ++ b) is)

swapped_total : {A : Type 0} (f : A → ℕ) (x : A) (a b : List A) → total f (x ∷ (a ++ b)) ≡ total f (x ∷ (b ++ a))
swapped_total f x a b = let one = total_append f a b in let other = total_append f b a in omega arith

or_swapped : (a b : Bool) → (a || b) ≡ (b || a)
or_swapped true true = refl
or_swapped true false = refl
or_swapped false true = refl
or_swapped false false = refl

either_swapped : (a b : WakeObligation) → either_obligation a b ≡ either_obligation b a
either_swapped a b i = record {
  system = or_swapped a.system b.system i;
  message = or_swapped a.message b.message i;
  sending = or_swapped a.sending b.sending i;
}

-- what is owed to the actor whose cell was given home, and to the others
idled_here : (actor : ℕ) (journal : List Entry) (v : View) → obligation_to actor (idling actor journal v) ≡ record (obligation_to actor v) {
  system = true;
  message = true;
}
idled_here actor journal v = owes_here actor (record (obligation_to actor v) { system = true; message = true })
    v

idled_else : (actor other : ℕ) (journal : List Entry) (v : View) → other ≢ actor → obligation_to other (idling actor journal v) ≡ obligation_to other v
idled_else actor other journal v n = owes_else actor other (record (obligation_to actor v) { system = true; message = true })
    v n

module _ (claim pass : View) (actor : ℕ) (journal : List Entry) where
  abbrev before : View
  before = idling actor journal (taking_in claim pass)

  abbrev after : View
  after = taking_over pass (idling actor journal claim)

  sent : (p c : WakeObligation) → record (either_obligation p c) { system = true; message = true } ≡ either_obligation (record c { system = true; message = true }) p
  sent p c i = record { system = true; message = true; sending = or_swapped p.sending c.sending i }

  owed_here : obligation_to actor before ≡ obligation_to actor after
  owed_here = idled_here actor journal (taking_in claim pass)
      ∙ (ap (λ (d : WakeObligation). record d { system = true; message = true }) (obligation_by-added actor pass.obligations claim.obligations)
      ∙ (sent (obligation_to actor pass) (obligation_to actor claim) ∙ sym (obligation_by-added actor (idling actor journal claim).obligations pass.obligations
      ∙ ap (λ (d : WakeObligation). either_obligation d (obligation_to actor pass)) (idled_here actor journal claim))))

  owed_else : (a : ℕ) → a ≢ actor → obligation_to a before ≡ obligation_to a after
  owed_else a other = idled_else actor a journal (taking_in claim pass) other ∙ (obligation_by-added a pass.obligations claim.obligations
      ∙ (either_swapped (obligation_to a pass) (obligation_to a claim) ∙ sym (obligation_by-added a (idling actor journal claim).obligations pass.obligations
      ∙ ap (λ (d : WakeObligation). either_obligation d (obligation_to a pass)) (idled_else actor a journal claim other))))

  owed_by : (a : ℕ) → obligation_to a before ≡ obligation_to a after
  owed_by a = dite (ℕ_discrete a actor) (λ same. subst (λ b. obligation_to b before ≡ obligation_to b after) (sym same) owed_here) (λ other. owed_else a other)

pub alike : ReleasesAlike
alike claim pass actor journal = record {
  seen = λ s. (swapped s (Saw actor journal) pass.log claim.log, swapped s (Saw actor journal) claim.log pass.log);
  on = λ a. swapped_total (counted_on a) (Saw actor journal) pass.log claim.log;
  off = λ a. swapped_total (counted_off a) (Saw actor journal) pass.log claim.log;
  sent_system = refl;
  owed = owed_by claim pass actor journal;
  releases = λ a q. let r : Release = record { actor = actor; taken = taken_journal claim.claim; back = journal } in (
    swapped_total (taken_in_release a q) r pass.releases claim.releases,
    swapped_total (back_in_release a q) r pass.releases claim.releases,
  );
}
