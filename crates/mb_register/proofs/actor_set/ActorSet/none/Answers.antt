use Rattle.mb_register.proofs.Bits.{no_bits}
use Rattle.mb_register.proofs.actor_set.ActorSet.none.Goals as goal

pub returns : goal.returns
returns c id = no_bits id
