-- When a cell may be given an envelope (in Akka `Mailbox.run` checks this).
use Rattle.std.specs.Prelude.{◌≡◌, [], false}
use Rattle.mb_actor.specs.declared.phase.Phase.TheVariants.{Live}
use Rattle.mb_journal.specs.Aside.{ever_aside}
use Rattle.mb_journal.specs.Life.{phase}
use Rattle.mb_journal.specs.Suspension.{count}
use Rattle.mb_journal.specs.Identity.{Identity, is_guardian}
use Rattle.mb_status.specs.Mailbox.{Mailbox}
use Rattle.mb_cell.specs.CellView.{CellView}

-- the actor is not the guardian, and Live, its mailbox is not suspended, no system message is set aside, and nothing is left to carry out
pub record IsIdle (cell : CellView) : Type 0 where
  pub an_actor : is_guardian cell.who ≡ false
  pub live : phase cell.who cell.journal ≡ Live
  pub unsuspended : count cell.who cell.journal ≡ 0
  pub none_aside : ever_aside cell.journal ≡ []
  pub no_acts : cell.acts ≡ []

-- a cell to which nothing came
abbrev pub new_cell : Identity → CellView
new_cell who = record { who = who; journal = []; acts = []; is_ready = false }

-- the status of a mailbox that is neither closed nor suspended, and that nobody holds
abbrev pub open_mailbox : Mailbox
open_mailbox = record { closed = false; scheduled = false; count = 0 }
