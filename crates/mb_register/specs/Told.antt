-- The actors that a run told something, or sent a system message, and has not registered yet (this project's own profile: in Akka each message that is
-- sent registers its receiver at once).
use Rattle.std.specs.Prelude.{◌≡◌, ◌<◌, ◌==◌, ◌||◌, ℕ, Bool, true, false, if◌then◌else◌, List, [], ◌∷◌, ◌++◌, All}
use Rattle.mb_msg.specs.declared.id.ActorId.{ActorId}
use Rattle.mb_gate.specs.declared.claim.Claim.{Claim}
use Rattle.mb_core.specs.Actor.{nothing}
use Rattle.mb_gate.specs.Accessors.{held_actor}
use Rattle.mb_gate.specs.View.{View, obligation_to}
use Rattle.mb_register.specs.declared.actor_set.ActorSet.{ActorSet}
use Rattle.mb_register.specs.Due.{SawDue}
use Rattle.mb_register.specs.ActorSet.{has_actor}
use Rattle.mb_register.specs.declared.hint.Hint.TheVariants.{Message}

-- The actors, in the order in which the run sent to each of them first, and as a set.
pub record ToldView : Type 0 where
  pub set : ActorSet
  pub order : List ActorId

-- The actor of this number is among these.
abbrev pub is_among : List ActorId → ℕ → Bool
is_among [] id = false
is_among (actor ∷ actors) id = id == actor.0 || is_among actors id

-- Each of these actors stands there once.
abbrev pub AreDistinct : List ActorId → Type 0
AreDistinct [] = Unit {0}
AreDistinct (actor ∷ actors) = (is_among actors actor.0 ≡ false) × AreDistinct actors

-- The set has exactly these actors, each of which stands there once.
pub record IsSetOf (set : ActorSet) (order : List ActorId) : Type 0 where
  pub same : (id : ℕ) → has_actor set id ≡ is_among order id
  pub distinct : AreDistinct order
  pub within_limit : All (λ (actor : ActorId). actor.0 < 64) order

-- The actors after this one was sent something: it is the last, unless it was there.
abbrev pub with_told : ActorId → ToldView → List ActorId
with_told id told = if has_actor told.set id.0 then told.order else told.order ++ id ∷ []

-- The actor is noted, as the last, only if it was seen to be due with an envelope that waits for it, and if it was not noted before.
pub data NotesIfDue (id : ActorId) (before after : View) (old new : ToldView) : Type 0 where
  noted_before : has_actor old.set id.0 ≡ true → new ≡ old → NotesIfDue id before after old new
  not_due : obligation_to id.0 after ≡ nothing → new ≡ old → NotesIfDue id before after old new
  due : SawDue id.0 Message before after → new.order ≡ old.order ++ id ∷ [] → NotesIfDue id before after old new

-- The claims are of some of these actors, in their order.
pub data AreInOrderOf {H : Type 0} : List (Claim H) → List ActorId → Type 0 where
  none : AreInOrderOf [] []
  goes : (claim : Claim H) (id : ActorId) (claims : List (Claim H)) (ids : List ActorId) → held_actor claim ≡ id.0 → AreInOrderOf claims ids
      → AreInOrderOf (claim ∷ claims) (id ∷ ids)
  stays : (id : ActorId) (claims : List (Claim H)) (ids : List ActorId) → AreInOrderOf claims ids → AreInOrderOf claims (id ∷ ids)

-- What went into the run queue since are claims of some of these actors, in their order.
abbrev pub GoInOrder : {H : Type 0} → List ActorId → List (Claim H) → List (Claim H) → Type 0
GoInOrder {H} order old new = (went : List (Claim H)) × (new ≡ old ++ went) × AreInOrderOf went order
