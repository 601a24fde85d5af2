use Rattle.mb_world_tests.proofs.Unmoved.{behave}
use Rattle.mb_world_tests.proofs.case.begin.Goals as goal

pub new-requires-clause-behave : goal.new-requires-clause-behave
new-requires-clause-behave c = behave 1 c.in_ok-actors.actors.items
