-- Actors that are handed in for a system's numbers, and got nothing yet.
use Rattle.std.proofs.Common.{◌≡◌, ℕ, ◌+◌, ℤ, List, [], ◌∷◌, refl}
use Rattle.std.specs.Prelude.{All}
use Rattle.std.proofs.lemmas.List.Elements.{All-head, All-tail}
use Rattle.mb_actor.specs.Behaviour.{Moment, Reply}
use Rattle.mb_actor.specs.declared.message.Message.{Message}
use Rattle.mb_build.specs.BehavesAsPlanned.{BehaveAsPlanned}

-- actors that all do the same may be handed in where the system says that of each
pub alike-behaved : {A : Type 0} (content : A → ℤ) (after : List Message → ℤ) (gives : Moment → Reply → Type 0) (number : ℕ) (actors : List A)
    → All (λ a. content a ≡ after []) actors
    → BehaveAsPlanned content (λ a. after) (λ a. gives) (λ n. after) (λ n. gives) number actors
alike-behaved content after gives number [] unused = tt
alike-behaved content after gives number (a ∷ actors) unused = (
  record {
    unused = All-head (λ a. content a ≡ after []) a actors unused;
    behaves = refl;
    allows = λ m r. (λ x. x, λ x. x);
  },
  alike-behaved content after gives (number + 1) actors (All-tail (λ a. content a ≡ after []) a actors unused),
)
