-- Parties that are split off one another, and that join one another. This is no event: no word and no list changes, only
-- who owes and who holds (this project's own profile).
use Rattle.std.specs.Prelude.{◌≡◌, ◌≢◌, ◌↔◌, ◌⊎◌, ℕ, ◌<◌, ◌==◌, ◌||◌, if◌then◌else◌, List, [], ◌∷◌, ◌++◌, All, map, length}
use Rattle.std.specs.Prelude.{slice_get, slice_set, Some, option_map}
use Rattle.mb_core.specs.declared.wake_obligation.WakeObligation.{WakeObligation}
use Rattle.mb_core.specs.Actor.{MachineActor, nothing, obligation_by}
use Rattle.mb_core.specs.Held.{IsHeldRightly, HasPossibleMailbox}
use Rattle.mb_core.specs.Settled.{IsSettled, IsOwedSystem, IsOwedMessage}

-- a new party, of the next number, owes a copy of what this party owes
abbrev pub copied : MachineActor → ℕ → MachineActor
copied x party = record x { owed = x.owed ++ obligation_by x party ∷ [] }

-- a new party, of the next number, takes what this party owes, which owes nothing from then on
abbrev pub moved : MachineActor → ℕ → MachineActor
moved x party = record x { owed = slice_set x.owed party nothing ++ obligation_by x party ∷ [] }

-- two obligations as one: for each cause it is owed where one of the two is
abbrev pub both : WakeObligation → WakeObligation → WakeObligation
both a b =
    record {
      system = a.system || b.system;
      message = a.message || b.message;
      sending = a.sending || b.sending;
    }

-- one party takes over what another one owes and holds, which owes and holds nothing from then on
abbrev pub absorbed : MachineActor → ℕ → ℕ → MachineActor
absorbed x into from =
    record x {
      holder = option_map (λ party. if party == from then into else party) x.holder;
      owed = slice_set (slice_set x.owed into (both (obligation_by x into) (obligation_by x from))) from nothing;
    }

-- A party is split off this one: of each actor its obligations are copied, or moved. (A party that schedules an actor moves to
-- its claim what it owes that actor, and copies what it owes the others.)
pub record IsSplit (party : ℕ) (old new : List MachineActor) : Type 0 where
  pub same_actors : length new ≡ length old
  pub each :
      (number : ℕ) (x : MachineActor) → slice_get old number ≡ Some x →
      (slice_get new number ≡ Some (copied x party)) ⊎ (slice_get new number ≡ Some (moved x party))

-- One party takes over another one, at each actor; both exist, and are not the same.
pub record IsJoined (into from : ℕ) (old new : List MachineActor) : Type 0 where
  pub two : into ≢ from
  pub present : All (λ x. into < length x.owed) old
  pub each : new ≡ map (λ x. absorbed x into from) old

-- y is owed what x is owed, no less and no more, and what the laws say of x holds of y
pub record IsOwedTheSame (x y : MachineActor) : Type 0 where
  pub system : IsOwedSystem x ↔ IsOwedSystem y
  pub message : IsOwedMessage x ↔ IsOwedMessage y
  pub held : IsHeldRightly x → IsHeldRightly y
  pub possible : HasPossibleMailbox x → HasPossibleMailbox y
  pub settled : IsSettled x → IsSettled y

-- a split keeps the fact of all actors, and so does a join
abbrev pub SplitsKeep : (MachineActor → Type 0) → Type 0
SplitsKeep P = (party : ℕ) (old new : List MachineActor) → IsSplit party old new → All P old → All P new

-- where one party takes over another, a fact that held of all actors still does
abbrev pub JoinsKeep : (MachineActor → Type 0) → Type 0
JoinsKeep P = (into from : ℕ) (old new : List MachineActor) → IsJoined into from old new → All P old → All P new
