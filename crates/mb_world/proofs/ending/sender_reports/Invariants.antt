use Rattle.std.proofs.Common.{◌≡◌, ◌+◌, length}
use Rattle.std.specs.Vec.Iter.{into_iter_items}
use Rattle.mb_world.proofs.ending.sender_reports.Given as goal

abbrev pub invariant-loop-log : goal.invariant-loop-log
invariant-loop-log l = length l.reports.items + length (into_iter_items l.log-iterator) ≡ length l.fn.logs.items
