-- What lies in an actor's slot while nobody holds the actor.
use Rattle.std.specs.Prelude.{ℕ, List}
use Rattle.mb_msg.specs.declared.dead_letter.DeadLetter.{DeadLetter}
use Rattle.mb_msg.specs.declared.envelope.Envelope.{Envelope}
use Rattle.mb_msg.specs.declared.system.SysMsg.{SysMsg}
use Rattle.mb_cell.specs.CellView.{CellView}
use Rattle.mb_queue.specs.Passes.{SendPassView, TakePassView}
use Rattle.mb_home.specs.Directory.{DirectoryEntry}

-- What a home holds. The cell and its mailbox are Akka's; all else is this project's own profile. It holds the cell; the pass that takes from the
-- actor's queue; the passes that push for it, one for each actor but the guardian, in order from number 1 on; what was drained and not applied, in
-- order, with the numbers; how many envelopes the actor sent, modulo 2^64; which of them are dead letters, in order; the envelopes that were still
-- queued when it ended, in order; how many system messages were set aside when it ended; how many more came to it then and were dropped, modulo 2^64;
-- for how many more dead letters there is room; and the directory of the actors.
pub record Contents : Type 0 where
  pub cell : CellView
  pub take : TakePassView
  pub sends : List SendPassView
  pub rest : List (ℕ × SysMsg)
  pub sent : ℕ
  pub dead : List DeadLetter
  pub cleaned : List Envelope
  pub aside_dead : ℕ
  pub dropped : ℕ
  pub room : ℕ
  pub directory : List DirectoryEntry
