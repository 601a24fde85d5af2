use Rattle.std.proofs.Common.{arith}
use Rattle.mb_actor.proofs.ActorSetLemmas.{bit_cleared}
use Rattle.mb_actor.proofs.actor_set.ActorSet.remove_all.Goals as goal

pub returns : goal.returns
returns c = λ x. bit_cleared c.args.self.now.bits c.args.other.bits x.0 (omega arith) (omega arith)
