-- The state of a search: what was found, and what waits to be followed.
use Rattle.std.specs.Prelude.{◌≡◌, ◌⊎◌, ℕ, ℤ, ◌+◌, ◌<◌, ◌≤◌, List, [], ◌∷◌, ◌++◌, Option, Some, None, IfSome, length, slice_get, slice_set}
use Rattle.std.specs.List.{All}
use Rattle.mb_actor.specs.Behaviour.{Moment, Reply}
use Rattle.mb_actor.specs.declared.message.Message.{Message}
use Rattle.mb_world.specs.Alike.{IsAlike}
use Rattle.mb_world.specs.Choices.{IsPossible}
use Rattle.mb_world.specs.World.{Steps, WorldView}
use Rattle.mb_world.specs.declared.choice.Choice.{Choice}
use Rattle.mb_explore.specs.Added.{IsAdded}
use Rattle.mb_explore.specs.Orders.{IsOver, LeadsTo}
use Rattle.mb_explore.specs.Ways.{AllEndFrom, IsFoundWithin, IsToldOf}
use Rattle.mb_explore.specs.declared.outcome.Outcome.{Outcome}

-- an order of steps, and the system that it led to
abbrev pub Spot : Type 0
Spot = List Choice × WorldView

-- some step is possible
abbrev pub GoesOn : WorldView → Type 0
GoesOn world = (choice : Choice) × IsPossible world choice

-- an order of steps leads from a first world to one that is like this one, and this step of it to the next
pub record IsMadeAfter (starts : WorldView → Type 0) (order : List Choice) (world : WorldView) (choice : Choice) (next : WorldView) : Type 0 where
  pub first : WorldView
  pub near : WorldView
  pub starts_so : starts first
  pub leads : LeadsTo first order near
  pub alike : IsAlike near world
  pub possible : IsPossible near choice
  pub made : Steps near choice next

-- an order of steps leads from a first world to this one
pub record IsReached (starts : WorldView → Type 0) (order : List Choice) (world : WorldView) : Type 0 where
  pub first : WorldView
  pub starts_so : starts first
  pub leads : LeadsTo first order world

-- what was met again has its shorter order now
abbrev pub IsMet : Spot → Spot → Spot → Type 0
IsMet old new met = ((new ≡ met) × (length met.0 < length old.0)) ⊎ ((new ≡ old) × (length old.0 ≤ length met.0))

-- a system joins those that wait: as a new one, or where one waits that is alike
pub record IsMetAt (old new : List (Option Spot)) (met : Spot) : Type 0 where
  pub place : ℕ
  pub was : Spot
  pub is : Spot
  pub waits : slice_get old place ≡ Some (Some was)
  pub alike : IsAlike was.1 met.1
  pub shorter : IsMet was is met
  pub set : new ≡ slice_set old place (Some is)

-- it waits as a new one, or was met
abbrev pub IsJoined : List (Option Spot) → List (Option Spot) → Spot → Type 0
IsJoined old new met = (new ≡ old ++ Some met ∷ []) ⊎ IsMetAt old new met

-- a system that waited was taken out
pub record IsTakenFrom (old new : List (Option Spot)) (taken : Spot) : Type 0 where
  pub place : ℕ
  pub waited : slice_get old place ≡ Some (Some taken)
  pub set : new ≡ slice_set old place None

-- each text that was found is found in the end, with an order that is no longer
abbrev pub AreKept : List (List ℕ × List Choice) → List (List ℕ × List Choice) → Type 0
AreKept found final = All (λ (f : List ℕ × List Choice). IsFoundWithin final f.0 (length f.1)) found

module _ (after : ℕ → List Message → ℤ) (gives : ℕ → Moment → Reply → Type 0) (names : List (List ℕ)) where
  -- all ways on from each system that waits end in texts that are found in the end
  abbrev pub AllWait : List (List ℕ × List Choice) → List (Option Spot) → Type 0
  AllWait final waiting = All (λ (w : Option Spot). IfSome w (λ (s : Spot). AllEndFrom after gives names final (length s.0) s.1)) waiting

  -- Whatever is found in the end: if all ways on from what waits now end in it, then so do those from what waited before, and all texts that were found
  -- before are found.
  abbrev pub Follows : List (List ℕ × List Choice) → List (Option Spot) → List (List ℕ × List Choice) → List (Option Spot) →
      (List (List ℕ × List Choice) → Type 0) → Type 0
  Follows found_before before found_after waiting also =
      (final : List (List ℕ × List Choice)) → AreKept found_after final → AllWait final waiting →
      AreKept found_before final × AllWait final before × also final

  -- a step was made in a system like this one, and all ways on from there end in what is found in the end
  pub record IsSettled (final : List (List ℕ × List Choice)) (steps : ℕ) (world : WorldView) (choice : Choice) : Type 0 where
    pub near : WorldView
    pub next : WorldView
    pub alike : IsAlike near world
    pub made : Steps near choice next
    pub all_end : AllEndFrom after gives names final (steps + 1) next

  -- No step is possible in this system, to which this order leads, and its text is found now.
  pub record EndsHere (before now : List Outcome) (order : List Choice) (world : WorldView) : Type 0 where
    pub over : IsOver world
    pub text : List ℕ
    pub told : IsToldOf after gives names world text
    pub added : IsAdded before now text order

  -- The text of a system that an order leads to is found now, or the system waits.
  abbrev pub IsSeen : List Outcome → List (Option Spot) → List Outcome → List (Option Spot) → Spot → Type 0
  IsSeen found_before before found waiting spot =
      (EndsHere found_before found spot.0 spot.1 × (waiting ≡ before))
      ⊎ (GoesOn spot.1 × IsJoined before waiting spot × (found ≡ found_before))
