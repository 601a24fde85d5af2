-- What a report after an order of steps shows.
use Rattle.std.specs.Prelude.{◌≡◌, ◌⊎◌, ℕ, ℤ, List, Some, slice_get, string_bytes, take, length}
use Rattle.mb_actor.specs.Behaviour.{Moment, Reply}
use Rattle.mb_actor.specs.declared.message.Message.{Message}
use Rattle.mb_world.specs.Choices.{AreChoices, IsPossible}
use Rattle.mb_world.specs.World.{WorldView}
use Rattle.mb_world.specs.declared.choice.Choice.{Choice}
use Rattle.mb_explore.specs.Orders.{LeadsTo}
use Rattle.mb_explore.specs.Ways.{IsToldOf}
use Rattle.mb_explore.specs.declared.replayed.Replayed.{Replayed}

-- Steps of this order lead from a first world to one whose report has this text: all of them, or those before one that is not possible there. The steps
-- that are possible there are listed.
pub record IsReplayed (starts : WorldView → Type 0) (after : ℕ → List Message → ℤ) (gives : ℕ → Moment → Reply → Type 0) (names : List (List ℕ))
    (order : List Choice) (replayed : Replayed) : Type 0 where
  pub first : WorldView
  pub last : WorldView
  pub starts_so : starts first
  pub leads : LeadsTo first (take replayed.made order) last
  pub stops : (replayed.made ≡ length order) ⊎ ((next : Choice) × (slice_get order replayed.made ≡ Some next) × (IsPossible last next → ⊥))
  pub choices : AreChoices last replayed.choices.items
  pub told : IsToldOf after gives names last (string_bytes replayed.text)
