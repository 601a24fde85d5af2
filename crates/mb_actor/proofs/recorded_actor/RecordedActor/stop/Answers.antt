use Rattle.std.proofs.Common.{rules}
use Rattle.mb_actor.proofs.recorded_actor.RecordedActor.stop.Goals as goal

pub returns-clause-called : goal.returns-clause-called
returns-clause-called g c = search rules

pub returns-clause-given : goal.returns-clause-given
returns-clause-given g c = search rules

pub returns-clause-stays : goal.returns-clause-stays
returns-clause-stays g c = search rules
