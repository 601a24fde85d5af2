-- When a cell may be given an envelope.
use Rattle.std.specs.Prelude.{◌≡◌, ℕ, [], false, IsTrue}
use Rattle.mb_msg.specs.declared.envelope.Envelope.{Envelope}
use Rattle.mb_actor.specs.declared.phase.Phase.TheVariants.{Live}
use Rattle.mb_journal.specs.Identity.{is_guardian}
use Rattle.mb_journal.specs.Life.{phase}
use Rattle.mb_journal.specs.Reading.{IsOpen}
use Rattle.mb_cell.specs.CellView.{CellView}

-- there is room, no act is left, the envelope is to the cell's actor, the actor is Live and not the guardian, and the
-- status word that was read was open (`akka.dispatch.Mailbox.processMailbox`)
pub record MayHandle (cell : CellView) (envelope : Envelope) (reading : ℕ) : Type 0 where
  pub ready : IsTrue cell.is_ready
  pub carried_out : cell.acts ≡ []
  pub an_actor : is_guardian cell.who ≡ false
  pub addressed : envelope.to ≡ cell.who.this
  pub live : phase cell.who cell.journal ≡ Live
  pub open_reading : IsOpen cell.who cell.journal reading
