use Rattle.std.proofs.Common.{rules}
use Rattle.mb_actor.proofs.recorded_actor.RecordedActor.state.Goals as goal

pub returns : goal.returns
returns g c = search rules
