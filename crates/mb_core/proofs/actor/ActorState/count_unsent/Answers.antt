use Rattle.std.proofs.Common.{rules}
use Rattle.mb_core.proofs.actor.ActorState.count_unsent.Goals as goal

pub returns : goal.returns
returns c = search rules
