-- What a typed actor may do: its own content after what came to it, and what each call may give.
use Rattle.std.specs.Prelude.{◌≡◌, ◌↔◌, ℕ, ℤ, List, Option}
use Rattle.mb_msg.specs.declared.id.ActorId.{ActorId}
use Rattle.mb_actor.specs.Behaviour.{Reply}
use Rattle.mb_actor.specs.OutboxView.{OutboxView}
use Rattle.mb_actor.specs.declared.answer.Answer.{Answer}
use Rattle.mb_typed.specs.declared.incoming.Incoming.{Incoming}
use Rattle.mb_typed.specs.declared.typed_call.TypedCall.{TypedCall}

-- the moment of a call: what came since the last start, the call, how many actors there are, and which children the actor may
-- still spawn
pub record TypedMoment (C : Type 0) : Type 0 where
  pub messages : List (Incoming C)
  pub call : TypedCall C
  pub actors : ℕ
  pub unspawned : List ActorId

module _ {C : Type 0} where
  -- two such relations allow the same
  abbrev pub AllowsSameTyped : (TypedMoment C → Reply → Type 0) → (TypedMoment C → Reply → Type 0) → Type 0
  AllowsSameTyped old new = (m : TypedMoment C) (r : Reply) → old m r ↔ new m r

  -- what the call gave is what it may give after each list that leads to the content before it (this project's own profile)
  abbrev pub IsAllowedTyped : ℤ → (List (Incoming C) → ℤ) → (TypedMoment C → Reply → Type 0) → TypedCall C → Option Answer → OutboxView → OutboxView
      → Type 0
  IsAllowedTyped content after gives call answer old new = (messages : List (Incoming C)) → content ≡ after messages →
      gives (record { messages = messages; call = call; actors = old.actors; unspawned = old.unspawned })
      (record { answer = answer; effects = new.effects })

  -- what no call changes: what the actor does after what came, how many actors there are, and which children it may still spawn
  pub record KeepsTyped (after : List (Incoming C) → ℤ) (gives : TypedMoment C → Reply → Type 0) (old : OutboxView)
      (new_after : List (Incoming C) → ℤ) (new_gives : TypedMoment C → Reply → Type 0) (new : OutboxView) : Type 0 where
    pub after_kept : new_after ≡ after
    pub gives_kept : AllowsSameTyped gives new_gives
    pub actors_kept : new.actors ≡ old.actors
    pub unspawned_kept : new.unspawned ≡ old.unspawned
