-- An actor that is handed in to be a cell's (this project's own profile: Akka makes actors by `akka.actor.Props`).
use Rattle.std.specs.Prelude.{◌≡◌, ℤ, List, []}
use Rattle.mb_actor.specs.Behaviour.{AllowsSame, Moment, Reply}
use Rattle.mb_actor.specs.declared.message.Message.{Message}

-- No message came to this actor yet, and it does what is said of the actor of its number.
pub record IsNewActor {A : Type 0} (content : A → ℤ) (after : A → List Message → ℤ) (gives : A → Moment → Reply → Type 0)
    (said_after : List Message → ℤ) (said_gives : Moment → Reply → Type 0) (actor : A) : Type 0 where
  pub unused : content actor ≡ after actor []
  pub behaves : after actor ≡ said_after
  pub allows : AllowsSame (gives actor) said_gives
