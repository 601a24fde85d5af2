-- An outbox as contracts see it: what it holds, what an actor may ask for, and what it holds after.
use Rattle.std.specs.Prelude.{ℕ, ◌==◌, Bool, true, false, not, ◌&&◌, if◌then◌else◌, List, [], ◌∷◌, ◌++◌, length, filter}
use Rattle.std.specs.Prelude.{nat_lt, nat_le, Option, Some, None, Result, Ok, Err}
use Rattle.std.specs.List.{filter_map}
use Rattle.mb_msg.specs.declared.id.ActorId.{ActorId}
use Rattle.mb_msg.specs.Limits.{most_effects}
use Rattle.mb_actor.specs.ActorList.{has}
use Rattle.mb_actor.specs.declared.effect.Effect.{Effect}
use Rattle.mb_actor.specs.declared.effect.Effect.TheVariants as effect
use Rattle.mb_actor.specs.declared.outbox_error.OutboxError.{OutboxError}
use Rattle.mb_actor.specs.declared.outbox_error.OutboxError.TheVariants.{OutboxFull, NoSuchActor}

-- the effects that were asked for, in order; how many actors there are; which children may still be spawned
pub record OutboxView : Type 0 where
  pub effects : List Effect
  pub actors : ℕ
  pub unspawned : List ActorId

-- the actor that an effect names
abbrev pub actor_of : Effect → ActorId
actor_of (effect.Tell to kind value) = to
actor_of (effect.Control to kind value) = to
actor_of (effect.Watch x) = x
actor_of (effect.Unwatch x) = x
actor_of (effect.Stop x) = x
actor_of (effect.Spawn x) = x

-- whether an effect is a tell, of a control message too (`ActorRef.tell`)
abbrev pub is_tell : Effect → Bool
is_tell (effect.Tell to kind value) = true
is_tell (effect.Control to kind value) = true
is_tell _ = false

-- what fills the places of an outbox without an effect: one that no actor can ask for (this project's own profile)
abbrev pub blank : Effect
blank = effect.Stop (record { 0 = 0 })

-- the child that an effect starts
abbrev pub spawn_of : Effect → Option ActorId
spawn_of (effect.Spawn x) = Some x
spawn_of _ = None

-- the children that the effects start, in order
abbrev pub spawns_of : List Effect → List ActorId
spawns_of effects = filter_map spawn_of effects

-- an actor's number, and not that of the guardian, which takes no messages (this project's own profile: in Akka an actor is
-- named by a reference, which cannot be wrong)
abbrev pub is_actor : OutboxView → ActorId → Bool
is_actor tray x = not (x.0 == 0) && nat_lt x.0 tray.actors

-- a child may be spawned if it was prepared and not spawned yet, nor asked for in this very call (`ActorContext.actorOf`;
-- that children are prepared is this project's own profile)
abbrev pub may_spawn : OutboxView → Effect → Bool
may_spawn tray (effect.Spawn x) = has tray.unspawned x && not (has (spawns_of tray.effects) x)
may_spawn tray _ = true

-- why the effect is refused, if it is (this project's own profile)
abbrev pub refusal : OutboxView → Effect → Option OutboxError
refusal tray e =
    if nat_le most_effects (length tray.effects) then Some OutboxFull
    else (if is_actor tray (actor_of e) && may_spawn tray e then None
    else Some NoSuchActor)

-- the answer of a call
abbrev pub answer_of : Option OutboxError → Result (Unit {0}) OutboxError
answer_of None = Ok tt
answer_of (Some fault) = Err fault

-- the effects after a call: the new one is the last, and a refused one is not added
abbrev pub effects_with : Option OutboxError → Effect → List Effect → List Effect
effects_with None e effects = effects ++ e ∷ []
effects_with (Some fault) e effects = effects

-- the outbox after a call: nothing but the effects changes
abbrev pub added : Option OutboxError → Effect → OutboxView → OutboxView
added refused e tray = record tray { effects = effects_with refused e tray.effects }

-- the outbox of the next call, where the effects are carried out: empty, without the children that they start
abbrev pub settled : OutboxView → OutboxView
settled tray =
    record tray { effects = []; unspawned = filter (λ x. not (has (spawns_of tray.effects) x)) tray.unspawned }
