-- What a report shows of a running system.
use Rattle.std.specs.Prelude.{◌≡◌, ℕ, ℤ, List, [], ◌∷◌, ◌++◌, IsPermutation, Some, None, if◌then◌else◌}
use Rattle.mb_actor.specs.Behaviour.{Moment, Reply}
use Rattle.mb_actor.specs.declared.message.Message.{Message}
use Rattle.mb_journal.specs.Identity.{is_guardian}
use Rattle.mb_journal.specs.Incarnation.{messages}
use Rattle.mb_journal.specs.Lawful.{IsLawful}
use Rattle.mb_journal.specs.Life.{phase}
use Rattle.mb_journal.specs.Suspension.{count}
use Rattle.mb_cell.specs.CellView.{CellView}
use Rattle.mb_report.specs.declared.report.ActorReport.{ActorReport}
use Rattle.mb_world.specs.MailboxView.{MailboxView}

-- The report shows this cell and this mailbox. The journal is one that the actor can have, and phase, count and state are what the journal says: the
-- state is that of the messages since the last start.
pub record Shows (after : ℕ → List Message → ℤ) (gives : ℕ → Moment → Reply → Type 0) (cell : CellView) (mailbox : MailboxView) (a : ActorReport)
    : Type 0 where
  pub phase_is : a.phase ≡ phase cell.who cell.journal
  pub count_is : a.count ≡ count cell.who cell.journal
  pub state_is : a.state ≡ (if is_guardian cell.who then None else Some (after cell.who.this.0 (messages cell.who cell.journal)))
  pub journal_is : a.journal.entries ≡ cell.journal
  pub lawful : IsLawful cell.who (gives cell.who.this.0) cell.journal
  pub cleaned_is : a.cleaned.items ≡ mailbox.cleaned
  pub left_is : a.left.items ≡ mailbox.queue.envelopes
  pub exactly_once : IsPermutation mailbox.arrived ((mailbox.given ++ mailbox.cleaned) ++ mailbox.queue.envelopes)

-- it shows each of these, in order, and nothing else
abbrev pub AreShown : (ℕ → List Message → ℤ) → (ℕ → Moment → Reply → Type 0) → List CellView → List MailboxView → List ActorReport → Type 0
AreShown after gives [] [] [] = Unit {0}
AreShown after gives (c ∷ cells) (m ∷ mailboxes) (a ∷ actors) = Shows after gives c m a × AreShown after gives cells mailboxes actors
AreShown after gives _ _ _ = ⊥
