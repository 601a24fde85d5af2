-- Actors that are handed in for the numbers of a plan (this project's own profile: Akka makes actors by `akka.actor.Props`).
use Rattle.std.specs.Prelude.{◌≡◌, ℕ, ◌+◌, ℤ, List, [], ◌∷◌}
use Rattle.mb_actor.specs.Behaviour.{AllowsSame, Moment, Reply}
use Rattle.mb_actor.specs.declared.message.Message.{Message}

-- No message came to this actor yet, and it does what is said of the actor of its number.
pub record BehavesAsPlanned {A : Type 0} (content : A → ℤ) (after : A → List Message → ℤ) (gives : A → Moment → Reply → Type 0) (planned_after
    : List Message → ℤ) (planned_gives : Moment → Reply → Type 0) (actor : A) : Type 0 where
  pub unused : content actor ≡ after actor []
  pub behaves : after actor ≡ planned_after
  pub allows : AllowsSame (gives actor) planned_gives

-- so is each of these, which are numbered on from this one
module _ {A : Type 0} (content : A → ℤ) (after : A → List Message → ℤ) (gives : A → Moment → Reply → Type 0) (planned_after : ℕ
    → List Message → ℤ) (planned_gives : ℕ → Moment → Reply → Type 0) where
  -- Each of these actors does what is said of its number. They are numbered on from this one.
  abbrev pub BehaveAsPlanned : ℕ → List A → Type 0
  BehaveAsPlanned number [] = Unit {0}
  BehaveAsPlanned number (actor ∷ actors) =
      BehavesAsPlanned content after gives (planned_after number) (planned_gives number) actor × BehaveAsPlanned (number + 1) actors
