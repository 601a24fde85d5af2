-- To whom an order can go (this project's own profile: in Akka a reference goes to an actor, or to dead letters).
use Rattle.std.specs.Prelude.{ℕ, ◌==◌, nat_lt, Bool, ◌&&◌, ◌||◌}
use Rattle.mb_msg.specs.declared.id.ActorId.{ActorId}
use Rattle.mb_msg.specs.declared.order.Order.{Order}
use Rattle.mb_msg.specs.declared.order.OrderKind.{OrderKind}
use Rattle.mb_msg.specs.declared.order.OrderKind.TheVariants.{Stop, Tell}

-- This can go to none of so many actors, of which the first has number 1: an envelope goes to one of them, a Terminate also to the guardian.
abbrev pub is_for_nobody : ℕ → ActorId → OrderKind → Bool
is_for_nobody actors to (Tell payload) = to.0 == 0 || nat_lt actors to.0
is_for_nobody actors to Stop = nat_lt actors to.0

-- The order is to be carried out, and can go to no actor.
abbrev pub has_nobody : ℕ → Order → Bool
has_nobody actors order = nat_lt 0 order.times && is_for_nobody actors order.to order.what
