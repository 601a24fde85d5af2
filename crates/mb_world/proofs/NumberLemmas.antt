-- The number of the next new system message.
use Rattle.std.proofs.Common.{◌≡◌, ℕ, suc, ◌+◌, ◌≤◌, List, [], ◌∷◌, length, refl, ap, ◌∙◌, arith}
use Rattle.std.proofs.lemmas.Bool.Decides.{nat_tests}
use Rattle.std.specs.Prelude.{◌==◌, if◌then◌else◌}
use Rattle.mb_msg.specs.declared.system.SysMsg.{SysMsg}
use Rattle.mb_journal.specs.Aside.{next_number}
use Rattle.mb_journal.specs.Entry.{Entry, Outcome}
use Rattle.mb_journal.specs.Entry.Entry.{Handled, System, Dropped}
use Rattle.mb_cell.specs.CellView.{CellView, TakesSystem}

of_entry : (before : List Entry) (number : ℕ) (m : SysMsg) (outcome : Outcome) →
    next_number (System number m outcome ∷ before) ≡ (if number == next_number before then number + 1 else next_number before)
unfolding next_number
of_entry before number m outcome = refl

-- after a system message, whichever it is
pub next-system : (old new : CellView) (number : ℕ) (m : SysMsg) → TakesSystem old new number m →
    next_number new.journal ≡ (if number == next_number old.journal then number + 1 else next_number old.journal)
next-system old new number m took =
    ap (λ (s : CellView). next_number s.journal) took.adds ∙ of_entry old.journal number m took.outcome

-- there are no more numbers than entries
pub few-numbers : (journal : List Entry) → next_number journal ≤ length journal
unfolding next_number
few-numbers [] = omega arith
few-numbers (Handled envelope reading outcome ∷ before) = let few = few-numbers before in omega (arith, few)
few-numbers (Dropped envelope ∷ before) = let few = few-numbers before in omega (arith, few)
few-numbers (System number m outcome ∷ before) = let few = few-numbers before in by number (next_number before) few
  where
    by : (number next : ℕ) → next ≤ length before → (if number == next then number + 1 else next) ≤ suc (length before)
    by number next few = grind (arith, nat_tests, few)
