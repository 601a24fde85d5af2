use Rattle.mb_actor.proofs.ActorSetLemmas.{bit_set}
use Rattle.mb_actor.proofs.actor_set.ActorSet.insert.Goals as goal

pub returns : goal.returns
returns c = λ x. bit_set c.args.self.now.bits c.args.id.0 x.0 c.requires
