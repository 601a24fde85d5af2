use Rattle.std.proofs.Common.{◌≡◌, length}
use Rattle.mb_world.proofs.building.logs_of.Given as goal

abbrev pub invariant-loop-number : goal.invariant-loop-number
invariant-loop-number l = length l.logs.items ≡ l._number
