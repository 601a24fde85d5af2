-- What an actor may do: its own content after the messages that came to it, and what each call may give.
use Rattle.std.specs.Prelude.{◌≡◌, ℕ, ℤ, List, Option, ◌↔◌}
use Rattle.mb_msg.specs.declared.id.ActorId.{ActorId}
use Rattle.mb_actor.specs.OutboxView.{OutboxView}
use Rattle.mb_actor.specs.declared.call.Call.{Call}
use Rattle.mb_actor.specs.declared.message.Message.{Message}
use Rattle.mb_actor.specs.declared.answer.Answer.{Answer}
use Rattle.mb_actor.specs.declared.effect.Effect.{Effect}

-- the moment of a call: the messages since the last start, the call, how many actors there are, and which children the
-- actor may still spawn
pub record Moment : Type 0 where
  pub messages : List Message
  pub call : Call
  pub actors : ℕ
  pub unspawned : List ActorId

-- what a call gives: an answer (none for a stop) and the effects that it asks for
pub record Reply : Type 0 where
  pub answer : Option Answer
  pub effects : List Effect

-- two such relations allow the same
abbrev pub AllowsSame : (Moment → Reply → Type 0) → (Moment → Reply → Type 0) → Type 0
AllowsSame old new = (m : Moment) (r : Reply) → old m r ↔ new m r

-- what the call gave is what it may give after each list of messages that leads to the content before it (that an actor
-- states what it may give is this project's own profile)
abbrev pub IsAllowed : ℤ → (List Message → ℤ) → (Moment → Reply → Type 0) → Call → Option Answer → OutboxView → OutboxView → Type 0
IsAllowed content after gives call answer old new =
    (messages : List Message) → content ≡ after messages →
    gives (record { messages = messages; call = call; actors = old.actors; unspawned = old.unspawned })
    (record { answer = answer; effects = new.effects })

-- what no call changes: what the actor does after which messages, how many actors there are, and which children it may
-- still spawn (this project's own profile: in Akka an actor's behaviour is its code)
pub record Keeps (after : List Message → ℤ) (gives : Moment → Reply → Type 0) (old : OutboxView)
    (new_after : List Message → ℤ) (new_gives : Moment → Reply → Type 0) (new : OutboxView) : Type 0 where
  pub after_kept : new_after ≡ after
  pub gives_kept : AllowsSame gives new_gives
  pub actors_kept : new.actors ≡ old.actors
  pub unspawned_kept : new.unspawned ≡ old.unspawned
