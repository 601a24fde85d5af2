use Rattle.std.proofs.Common.{◌≡◌, length}
use Rattle.mb_world.proofs.building.parents_of.Given as goal

abbrev pub invariant-loop-plan : goal.invariant-loop-plan
invariant-loop-plan l = length l.parents.items ≡ l.plan-index
