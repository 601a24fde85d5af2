use Rattle.std.proofs.Common.{rules}
use Rattle.mb_actor.proofs.effect.Effect.actor.Goals as goal

pub returns-in-Tell : goal.returns-in-Tell
returns-in-Tell c = search rules
