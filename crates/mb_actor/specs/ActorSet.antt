-- Sets of actors, kept as one word (this project's own profile).
use Rattle.std.specs.Prelude.{◌==◌, Bool}
use Rattle.std.specs.Int.{bit_at}
use Rattle.mb_msg.specs.declared.id.ActorId.{ActorId}
use Rattle.mb_actor.specs.declared.actor_set.ActorSet.{ActorSet}

-- the actor is in the set if the bit of its number is set
abbrev pub contains : ActorSet → ActorId → Bool
contains set x = bit_at set.bits x.0 == 1
