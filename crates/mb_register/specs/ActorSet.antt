-- A set of actors (this project's own profile).
use Rattle.std.specs.Prelude.{◌≡◌, ℕ, ◌<◌, ◌==◌, true, false, Bool}
use Rattle.std.specs.Int.{bit_at}
use Rattle.mb_register.specs.declared.actor_set.ActorSet.{ActorSet}

-- The actor of this number is in the set.
abbrev pub has_actor : ActorSet → ℕ → Bool
has_actor owed id = bit_at owed.bits id == 1

-- No actor is in the set.
abbrev pub IsNobody : ActorSet → Type 0
IsNobody owed = (id : ℕ) → has_actor owed id ≡ false

-- The actor is in the set, and none with a lower number is.
pub record IsFirst (owed : ActorSet) (id : ℕ) : Type 0 where
  pub present : has_actor owed id ≡ true
  pub least : (other : ℕ) → other < id → has_actor owed other ≡ false
