-- The run of a mailbox, by the cell that is run and the mailboxes of all actors.
use Rattle.std.specs.Prelude.{◌≡◌, List, [], ◌++◌, Some, slice_get, slice_set}
use Rattle.mb_msg.specs.declared.id.ActorId.{ActorId}
use Rattle.mb_journal.specs.Entry.{Entry}
use Rattle.mb_cell.specs.CellView.{CellView}
use Rattle.mb_world.specs.Dispatched.{cell_mark, marks_of}
use Rattle.mb_world.specs.MailboxView.{MailboxView}

-- It is this actor's cell, between two messages, and it has begun the envelopes that its mailbox gave it, in order.
pub record IsInRun (actor : ActorId) (cell : CellView) (mailboxes : List MailboxView) : Type 0 where
  pub own : cell.who.this ≡ actor
  pub carried_out : cell.acts ≡ []
  pub begun : slice_get (marks_of mailboxes) actor.0 ≡ Some (cell_mark cell)

-- the same cell, later: entries may have come to its journal, and none has changed
pub record Continues (old new : CellView) : Type 0 where
  pub same : new.who ≡ old.who
  pub added : List Entry
  pub extends : new.journal ≡ added ++ old.journal

-- The cell came as far as this, and no other cell was given an envelope.
pub record LeavesInRun (actor : ActorId) (old new : CellView) (before after : List MailboxView) : Type 0 where
  pub continues : Continues old new
  pub run : IsInRun actor new after
  pub others : marks_of after ≡ slice_set (marks_of before) actor.0 (cell_mark new)
