use Rattle.std.proofs.Common.{arith}
use Rattle.mb_actor.proofs.ActorSetLemmas.{no_bit_above}
use Rattle.mb_actor.proofs.actor_set.ActorSet.contains.Goals as goal

pub returns-else-from-lt-ACTORS : goal.returns-else-from-lt-ACTORS
returns-else-from-lt-ACTORS c = grind (arith, no_bit_above c.args.self.bits c.args.id.0)
