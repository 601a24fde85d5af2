use Rattle.mb_register.proofs.Bits.{with_bit}
use Rattle.mb_register.proofs.actor_set.ActorSet.insert.Goals as goal

pub returns : goal.returns
returns c other = with_bit c.args.self.now.bits c.args.id.0 other c.requires
