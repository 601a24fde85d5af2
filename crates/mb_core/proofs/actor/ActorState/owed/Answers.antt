use Rattle.std.proofs.Common.{rules}
use Rattle.mb_core.proofs.actor.ActorState.owed.Goals as goal

pub returns : goal.returns
returns c = search rules
