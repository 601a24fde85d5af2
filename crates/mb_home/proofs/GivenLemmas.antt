-- How many system messages a home knows of, through each step: the gates compare that when the home goes back.
use Rattle.std.proofs.Common.{◌≡◌, ℕ, ◌+◌, ◌%◌, ◌^◌, ◌<◌, false, List, [], ◌∷◌, length, refl, sym, ap, ◌∙◌}
use Rattle.std.proofs.Common.{arith}
use Rattle.std.specs.Prelude.{Option, Some, None}
use Rattle.std.proofs.Math.Nat.{mod-eq_of_lt, mod-add-mod}
use Rattle.mb_msg.specs.declared.envelope.Envelope.{Envelope}
use Rattle.mb_msg.specs.declared.system.SysMsg.{SysMsg}
use Rattle.mb_actor.specs.Behaviour.{Moment, Reply}
use Rattle.mb_journal.specs.Aside.{next_front, next_number}
use Rattle.mb_journal.specs.Entry.{Entry, Outcome}
use Rattle.mb_journal.specs.Entry.Entry.{Handled, System, Dropped}
use Rattle.mb_journal.specs.Life.{closed}
use Rattle.mb_cell.specs.CellView.{CellView, IsOf}
use Rattle.mb_gate.specs.View.{given_after}
use Rattle.mb_home.specs.AtHome.{given_of}
use Rattle.mb_home.specs.Contents.{Contents}
use Rattle.mb_home.specs.AgreesWithJournal.{AgreesWithJournal}
use Rattle.mb_home.specs.Steps.{AppliesNext, Begins, IsDue}
use Rattle.mb_home.proofs.CountLemmas.{aside-below, few-numbers, front-of, next-new, next-again, rest-first}
use Rattle.mb_home.proofs.DrainLemmas.{given-next}

-- what is drained is counted as the gates count it
pub given-kept : (h : Contents) (drained : List (ℕ × SysMsg)) → h.rest ≡ [] →
    given_of (record h { rest = drained }) ≡ given_after (given_of h) drained
given-kept h drained none =
    sym
    (ap (λ n. (n + length drained) % 2 ^ 64) (given-next h none)
    ∙ mod-add-mod (next_number h.cell.journal + h.dropped) (2 ^ 64) (length drained))

-- a message that is applied was among those that were given
module _ (h : Contents) (gives : Moment → Reply → Type 0) (s : AgreesWithJournal gives [] h) (not_ended : closed h.cell.who h.cell.journal ≡ false) where
  none_dropped : h.dropped ≡ 0
  none_dropped = s.counted.none not_ended

  at_next : (next_number h.cell.journal + h.dropped) % 2 ^ 64 ≡ next_number h.cell.journal
  at_next =
      ap (λ d. (next_number h.cell.journal + d) % 2 ^ 64) none_dropped
      ∙ ap (λ n. n % 2 ^ 64) (let sum : next_number h.cell.journal + 0 ≡ next_number h.cell.journal = omega arith in sum)
      ∙ mod-eq_of_lt (omega (arith, few-numbers h.cell.who gives h.cell.journal s.lawful.entries, s.lawful.within_limit, s.is_own.within_limit))

  same-sum : (front : Option (ℕ × SysMsg)) (number : ℕ) (m : SysMsg) (outcome : Outcome) (left : List (ℕ × SysMsg)) →
      next_front h.cell.who h.cell.journal ≡ front → IsDue front h.rest number m left →
      next_number (System number m outcome ∷ h.cell.journal) + h.dropped + length left ≡ next_number h.cell.journal + h.dropped + length h.rest
  same-sum None number m outcome left nothing is =
      let first = rest-first ((next_number h.cell.journal + h.dropped) % 2 ^ 64) h.rest left number m s.counted.rest is in
      let fresh : number ≡ next_number h.cell.journal = first.0 ∙ at_next in
      omega (arith, next-new h.cell.journal number m outcome fresh, fresh, ap (λ l. length l) is)
  same-sum (Some x) number m outcome left front is =
      let less : number < next_number h.cell.journal =
      front-of (λ (y : ℕ × SysMsg). y.0 < next_number h.cell.journal) h.cell.who h.cell.journal (number, m)
      (front ∙ ap (λ (y : ℕ × SysMsg). Some y) is.0) (aside-below h.cell.who gives h.cell.journal s.lawful.entries) in
      omega (arith, next-again h.cell.journal number m outcome less, ap (λ l. length l) is.1)

  pub given-applied : (new : Contents) → AppliesNext h new → given_of new ≡ given_of h
  given-applied new a =
      ap given_of a.same
      ∙ ap (λ (c : CellView). (next_number c.journal + h.dropped + length new.rest) % 2 ^ 64) a.taken.adds
      ∙ ap (λ n. n % 2 ^ 64) (same-sum (next_front h.cell.who h.cell.journal) a.number a.message a.taken.outcome new.rest refl a.due)

-- an envelope has no such number
next-same : (before : List Entry) (e : Entry) (envelope : Envelope) (reading : ℕ) → IsOf envelope reading e → next_number (e ∷ before)
    ≡ next_number before
unfolding next_number
next-same before (Handled x r o) envelope reading of_it = refl
next-same before (System n m o) envelope reading of_it = absurd of_it
next-same before (Dropped x) envelope reading of_it = refl

pub given-begun : (h new : Contents) (reading : ℕ) → Begins h new reading → given_of new ≡ given_of h
given-begun h new reading b =
    ap given_of b.same
    ∙ ap (λ (c : CellView). (next_number c.journal + h.dropped + length h.rest) % 2 ^ 64) b.taken.adds
    ∙ ap (λ n. (n + h.dropped + length h.rest) % 2 ^ 64) (next-same h.cell.journal b.taken.entry b.envelope reading b.taken.of_it)
