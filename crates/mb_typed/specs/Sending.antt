-- Commands that are sent.
use Rattle.mb_msg.specs.declared.id.ActorId.{ActorId}
use Rattle.mb_msg.specs.declared.order.Order.{Order}
use Rattle.mb_msg.specs.declared.order.OrderKind.TheVariants as order
use Rattle.mb_msg.specs.declared.payload.Payload.TheVariants as payload
use Rattle.mb_actor.specs.declared.effect.Effect.{Effect}
use Rattle.mb_actor.specs.declared.effect.Effect.TheVariants as effect
use Rattle.mb_typed.specs.declared.packed.Packed.{Packed}

-- the effect of telling an actor a packed command (`ActorRef.tell`)
abbrev pub tell_of : ActorId → Packed → Effect
tell_of to packed = effect.Tell to packed.kind packed.value

-- the effect of sending it as a control message
abbrev pub control_of : ActorId → Packed → Effect
control_of to packed = effect.Control to packed.kind packed.value

-- the order to send a packed command once
abbrev pub order_of : ActorId → Packed → Order
order_of to packed = record { to = to; what = order.Tell (payload.User packed.kind packed.value); times = 1 }

-- the order to send it once as a control message
abbrev pub control_order_of : ActorId → Packed → Order
control_order_of to packed = record { to = to; what = order.Tell (payload.Control packed.kind packed.value); times = 1 }
