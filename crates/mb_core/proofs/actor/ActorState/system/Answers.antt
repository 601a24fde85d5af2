use Rattle.std.proofs.Common.{rules}
use Rattle.mb_core.proofs.actor.ActorState.system.Goals as goal

pub returns-in-Some : goal.returns-in-Some
returns-in-Some c = search rules
