use Rattle.std.proofs.Common.{◌≡◌, ◌+◌, ◌<◌, ◌≤◌, ◌++◌, length}
use Rattle.mb_journal.specs.Incarnation.{messages}
use Rattle.bench.specs.Idle.{IsIdle}
use Rattle.bench.specs.Sum.{sends}
use Rattle.bench.proofs.messages.measured.handle_all.Given as goal

abbrev pub invariant-loop-number : goal.invariant-loop-number
invariant-loop-number g l = record {
  idle : IsIdle l.cell;
  same_who : l.cell.who ≡ l.fn.cell.who;
  entries : length l.cell.journal ≡ length l.fn.cell.journal + l.number;
  room : 0 < l.number → length l.fn.cell.journal + l.number ≤ l.fn.cell.who.limit;
  messages_added : messages l.cell.who l.cell.journal ≡ messages l.fn.cell.who l.fn.cell.journal ++ sends l.number;
}
