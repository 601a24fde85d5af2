use Rattle.mb_world_tests.proofs.Unmoved.{behave}
use Rattle.mb_world_tests.proofs.case.CaseSetupPlannedActor.parts.Goals as goal

pub returns-clause-behave : goal.returns-clause-behave
returns-clause-behave c = behave 1 c.in_ok-actors.actors.items
