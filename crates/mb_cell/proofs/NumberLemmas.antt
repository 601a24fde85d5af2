-- What a message more makes of the number that the next system message has.
use Rattle.std.proofs.Common.{◌≡◌, ℕ, ◌+◌, ◌<◌, List, ◌∷◌, true, false, refl, ap, sym, ◌∙◌, arith}
use Rattle.std.specs.Prelude.{◌==◌, if◌then◌else◌}
use Rattle.mb_msg.specs.declared.envelope.Envelope.{Envelope}
use Rattle.mb_msg.specs.declared.system.SysMsg.{SysMsg}
use Rattle.mb_journal.specs.Aside.{next_number}
use Rattle.mb_journal.specs.Entry.{Entry, Outcome}
use Rattle.mb_journal.specs.Entry.Entry.{Handled, System, Dropped}
use Rattle.mb_cell.specs.CellView.{CellView, TakesSystem, TakesEnvelope, IsOf}

same : (n : ℕ) → (n == n) ≡ true
same n = grind arith

other : (n m : ℕ) → n < m → (n == m) ≡ false
other n m less = grind arith

pub number-added : (before : List Entry) (number : ℕ) (m : SysMsg) (outcome : Outcome) → number ≡ next_number before →
    next_number (System number m outcome ∷ before) ≡ number + 1
unfolding next_number
number-added before number m outcome new =
    (λ i. if number == sym new i then number + 1 else next_number before)
    ∙ (λ i. if same number i then number + 1 else next_number before)

pub number-again : (before : List Entry) (number : ℕ) (m : SysMsg) (outcome : Outcome) → number < next_number before →
    next_number (System number m outcome ∷ before) ≡ next_number before
unfolding next_number
number-again before number m outcome less =
    λ i. if other number (next_number before) less i then number + 1 else next_number before

-- after the next new message
pub numbered_next : (old new : CellView) (number : ℕ) (m : SysMsg) → TakesSystem old new number m → number ≡ next_number old.journal →
    number + 1 ≡ next_number new.journal
numbered_next old new number m took is =
    sym (number-added old.journal number m took.outcome is) ∙ ap (λ (s : CellView). next_number s.journal) (sym took.adds)

-- after one that was set aside before
pub numbered_front : (old new : CellView) (number : ℕ) (m : SysMsg) → TakesSystem old new number m → number < next_number old.journal →
    next_number old.journal ≡ next_number new.journal
numbered_front old new number m took less =
    sym (number-again old.journal number m took.outcome less) ∙ ap (λ (s : CellView). next_number s.journal) (sym took.adds)

of_envelope : (before : List Entry) (e : Entry) (envelope : Envelope) (reading : ℕ) → IsOf envelope reading e →
    next_number before ≡ next_number (e ∷ before)
unfolding next_number
of_envelope before (Handled other r outcome) envelope reading of_it = refl
of_envelope before (System number m outcome) envelope reading of_it = absurd of_it
of_envelope before (Dropped other) envelope reading of_it = refl

-- after an envelope
pub numbered_envelope : (old new : CellView) (envelope : Envelope) (reading : ℕ) → TakesEnvelope old new envelope reading →
    next_number old.journal ≡ next_number new.journal
numbered_envelope old new envelope reading took =
    of_envelope old.journal took.entry envelope reading took.of_it ∙ ap (λ (s : CellView). next_number s.journal) (sym took.adds)
