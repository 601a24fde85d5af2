use Rattle.std.proofs.Common.{rules}
use Rattle.mb_actor.proofs.recorded_actor.RecordedActor.start.Goals as goal

pub returns-clause-called : goal.returns-clause-called
returns-clause-called g c = search rules
