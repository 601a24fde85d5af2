use Rattle.std.proofs.Common.{◌≡◌, length}
use Rattle.mb_world_tests.proofs.case.actors_of.Given as goal

abbrev pub invariant-loop-part : goal.invariant-loop-part
invariant-loop-part l = length l.actors.items ≡ l.part-index
