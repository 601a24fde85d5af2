use Rattle.mb_register.proofs.Bits.{without_bit}
use Rattle.mb_register.proofs.actor_set.ActorSet.remove.Goals as goal

pub returns : goal.returns
returns c other below = without_bit c.args.self.now.bits c.args.id.0 other c.requires below
