use Rattle.std.proofs.Common.{◌≡◌, ◌-◌, length}
use Rattle.mb_world.specs.Running.{LeavesInRun}
use Rattle.mb_world.proofs.running.apply_systems.Given as goal

abbrev pub invariant-messages : goal.invariant-messages
invariant-messages g l = record {
  run : LeavesInRun l.actor l.initial.cell l.cell l.initial.dispatcher.mailboxes.items l.dispatcher.mailboxes.items;
  logs : length l.dispatcher.logs.items ≡ length l.initial.dispatcher.logs.items;
}

abbrev pub decreases-messages : goal.decreases-messages
decreases-messages g l = l.cell.who.limit - length l.cell.journal
