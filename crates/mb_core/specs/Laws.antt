-- The forms of the laws: a fact of an actor that each step keeps, and that so holds after every run.
use Rattle.std.specs.Prelude.{ℕ, ◌<◌, List, All, length}
use Rattle.mb_core.specs.declared.event.Event.{Event}
use Rattle.mb_core.specs.declared.event.Step.{Step}
use Rattle.mb_core.specs.Actor.{MachineActor}
use Rattle.mb_core.specs.Run.{Change, Transition, LeadsTo}

-- a step keeps the fact at its actor
abbrev pub ChangesKeep : (MachineActor → Type 0) → Type 0
ChangesKeep P =
    (x : MachineActor) (party : ℕ) (step : Step) (y : MachineActor) → Change x party step y → party < length x.owed → P x → P y

-- an event keeps the fact of all actors
abbrev pub StepsKeep : (MachineActor → Type 0) → Type 0
StepsKeep P = (old : List MachineActor) (event : Event) (new : List MachineActor) → Transition old event new → All P old → All P new

-- the fact holds of all actors after every run
abbrev pub EveryRunHas : (MachineActor → Type 0) → Type 0
EveryRunHas P =
    (words : List ℕ) (parties : ℕ) (events : List Event) (state : List MachineActor) →
    LeadsTo words parties events state → All P state

-- a step keeps the fact P at its actor, and an event of all actors, where the fact H holds too
abbrev pub ChangesKeepWith : (MachineActor → Type 0) → (MachineActor → Type 0) → Type 0
ChangesKeepWith H P =
    (x : MachineActor) (party : ℕ) (step : Step) (y : MachineActor) → Change x party step y → party < length x.owed → H x → P x → P y

-- an event keeps the fact P of all actors, where the fact H holds of all of them too
abbrev pub StepsKeepWith : (MachineActor → Type 0) → (MachineActor → Type 0) → Type 0
StepsKeepWith H P =
    (old : List MachineActor) (event : Event) (new : List MachineActor) → Transition old event new → All H old → All P old → All P new
