use Rattle.std.proofs.Common.{◌≡◌, length}
use Rattle.mb_world.specs.Running.{LeavesInRun}
use Rattle.mb_world.proofs.running.run_mailbox.Given as goal

abbrev pub invariant-loop-handled : goal.invariant-loop-handled
invariant-loop-handled g l = record {
  run : LeavesInRun l.actor l.fn.cell l.cell l.fn.dispatcher.mailboxes.items l.dispatcher.mailboxes.items;
  logs : length l.dispatcher.logs.items ≡ length l.fn.dispatcher.logs.items;
}
