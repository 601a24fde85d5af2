-- Actors that are handed in for the numbers of a plan (this project's own profile: Akka makes actors by `akka.actor.Props`).
use Rattle.std.specs.Prelude.{◌≡◌, ℕ, ◌+◌, ℤ, List, [], ◌∷◌}
use Rattle.mb_actor.specs.Behaviour.{AllowsSame, Moment, Reply}
use Rattle.mb_actor.specs.declared.message.Message.{Message}

-- no message came to this actor yet, and it does what is said of the actor of its number
pub record Behaves {A : Type 0} (content : A → ℤ) (after : A → List Message → ℤ) (gives : A → Moment → Reply → Type 0) (said_after : List Message → ℤ)
    (said_gives : Moment → Reply → Type 0) (actor : A) : Type 0 where
  pub unused : content actor ≡ after actor []
  pub behaves : after actor ≡ said_after
  pub allows : AllowsSame (gives actor) said_gives

module _ {A : Type 0} (content : A → ℤ) (after : A → List Message → ℤ) (gives : A → Moment → Reply → Type 0) (said_after : ℕ → List Message → ℤ)
    (said_gives : ℕ → Moment → Reply → Type 0) where
  -- so is each of these, which are numbered on from this one
  abbrev pub BehaveFrom : ℕ → List A → Type 0
  BehaveFrom number [] = Unit {0}
  BehaveFrom number (actor ∷ actors) = Behaves content after gives (said_after number) (said_gives number) actor × BehaveFrom (number + 1) actors
