-- A party that gives a new one a part of what it owes (this project's own profile). Where a party is split off, all is copied or moved.
use Rattle.std.specs.Prelude.{◌≡◌, ℕ, ◌<◌, List, [], ◌∷◌, ◌++◌, All, length, slice_get, slice_set, Some}
use Rattle.mb_core.specs.declared.wake_obligation.WakeObligation.{WakeObligation}
use Rattle.mb_core.specs.Actor.{MachineActor, obligation_by}
use Rattle.mb_core.specs.Parties.{both}

-- this party owes the one from then on, and a new party, of the next number, the other
abbrev pub parted : MachineActor → ℕ → WakeObligation → WakeObligation → MachineActor
parted x party mine theirs = record x { owed = slice_set x.owed party mine ++ theirs ∷ [] }

-- What the party owes the actor is what it and the new one owe it then.
pub record ArePartsOf (x : MachineActor) (party : ℕ) (mine theirs : WakeObligation) : Type 0 where
  pub present : party < length x.owed
  pub whole : both mine theirs ≡ obligation_by x party

-- A new party takes of each actor a part of what this party owes it. This party owes the other part.
pub record IsParted (party : ℕ) (old new : List MachineActor) : Type 0 where
  pub same_actors : length new ≡ length old
  pub each : (number : ℕ) (x : MachineActor) → slice_get old number ≡ Some x → (mine : WakeObligation) × (theirs : WakeObligation)
      × ArePartsOf x party mine theirs × (slice_get new number ≡ Some (parted x party mine theirs))

-- it keeps the fact of all actors
abbrev pub PartsKeep : (MachineActor → Type 0) → Type 0
PartsKeep P = (party : ℕ) (old new : List MachineActor) → IsParted party old new → All P old → All P new
