use Rattle.std.proofs.Common.{rules}
use Rattle.mb_core.proofs.actor.ActorState.holder.Goals as goal

pub returns : goal.returns
returns c = search rules
