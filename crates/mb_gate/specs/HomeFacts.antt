-- What the gates ask of what lies at home (this project's own profile).
use Rattle.std.specs.Prelude.{ℕ, List}
use Rattle.mb_status.specs.Mailbox.{Mailbox}
use Rattle.mb_msg.specs.declared.system.SysMsg.{SysMsg}
use Rattle.mb_journal.specs.Entry.{Entry}

-- All that the gates ask of an actor's home, besides whose it is: the cell's journal, and the mailbox that this says; whether nothing is left
-- to be applied; how many messages its list gave; which of these it still knows; and which actors it says are closed.
pub record HomeFacts : Type 1 where
  -- the newest entry first
  pub journal : List Entry
  -- closed or not, how often suspended, and not scheduled
  pub mailbox : Mailbox
  -- nothing is left beside the cell that is to be applied, and nothing set aside waits to be applied in front
  pub no_backlog : Type 0
  -- how many system messages its list gave, modulo 2^64: those that were applied, those that are dead, and those left beside the cell
  pub given : ℕ
  -- the system messages of which it says that its list gave them, each with its number
  pub drained : List (ℕ × SysMsg)
  -- the receivers of the dead letters that have this reason
  pub closed_to : List ℕ
