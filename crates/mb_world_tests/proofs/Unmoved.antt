-- Actors whose state is always 0 do what is said of each number, if nothing else is said.
use Rattle.std.proofs.Common.{ℕ, ℤ, pos, ◌+◌, List, [], ◌∷◌, refl}
use Rattle.mb_actor.specs.Behaviour.{Moment, Reply}
use Rattle.mb_actor.specs.declared.message.Message.{Message}
use Rattle.mb_world.specs.Behaves.{BehaveFrom}

module _ {A : Type 0} where
  abbrev content : A → ℤ
  content actor = pos 0

  abbrev after : A → List Message → ℤ
  after actor messages = pos 0

  abbrev gives : A → Moment → Reply → Type 0
  gives actor moment reply = Unit {0}

  pub behave : (number : ℕ) (actors : List A) → BehaveFrom content after gives (λ n messages. pos 0) (λ n moment reply. Unit {0}) number actors
  behave number [] = tt
  behave number (actor ∷ actors) =
      (record { unused = refl; behaves = refl; allows = λ m r. ((λ x. x), (λ x. x)) }, behave (number + 1) actors)
