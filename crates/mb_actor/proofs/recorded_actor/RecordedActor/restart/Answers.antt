use Rattle.std.proofs.Common.{rules}
use Rattle.mb_actor.proofs.recorded_actor.RecordedActor.restart.Goals as goal

pub returns-clause-given : goal.returns-clause-given
returns-clause-given g c = search rules
