-- How an outbox keeps which children may still be spawned.
use Rattle.std.specs.Prelude.{◌≡◌, true, filter}
use Rattle.std.specs.List.{list_all}
use Rattle.mb_msg.specs.declared.id.ActorId.{ActorId}
use Rattle.mb_actor.specs.ActorList.{has}
use Rattle.mb_actor.specs.ActorSet.{contains}
use Rattle.mb_actor.specs.Held.{CanHold}
use Rattle.mb_actor.specs.OutboxView.{OutboxView, is_tell, spawns_of}
use Rattle.mb_actor.specs.declared.outbox.Outbox.TheInside.{Inside}

-- an outbox as contracts see it
abbrev pub outbox_view_of : Inside → OutboxView
outbox_view_of o =
    record { effects = o.effects.items; actors = o.actors; unspawned = filter (contains o.unspawned) o.prepared.value.items }

-- the children that may be spawned are prepared ones, the set of those that were asked for is that of the spawns among the
-- effects, it is known whether each effect is a tell, and they are such as an outbox can hold (this project's own profile)
pub record IsOutbox (o : Inside) : Type 0 where
  pub prepared : (x : ActorId) → contains o.unspawned x ≡ true → has o.prepared.value.items x ≡ true
  pub asked : (x : ActorId) → contains o.asked x ≡ has (spawns_of o.effects.items) x
  pub telling : o.only_tells ≡ list_all is_tell o.effects.items
  pub held : CanHold (outbox_view_of o)
