-- The memory that the end of a system takes, reserved beforehand.
use Rattle.std.specs.Prelude.{◌≡◌, ◌⊎◌, ℕ, ◌+◌, ◌≤◌, false, List, [], ◌++◌, Some, Vec, length, map, slice_get, vec_capacity}
use Rattle.std.specs.List.{AllZip}
use Rattle.std.specs.Global.{Global}
use Rattle.mb_msg.specs.declared.envelope.Envelope.{Envelope}
use Rattle.mb_gate.specs.Rule.{IsAmong}
use Rattle.mb_gate.specs.View.{View, Observation, Counted, obligation_to}
use Rattle.mb_shutdown.specs.declared.room.Room.{Room}

-- The room is empty, and there is place for so many envelopes.
abbrev pub IsEmptyWithRoom : ℕ → Vec Envelope Global → Type 0
IsEmptyWithRoom waiting room = (room.items ≡ []) × (waiting ≤ vec_capacity room)

-- How many envelopes of each actor were counted as waiting.
abbrev pub counted_in : {A K : Type 0} → Room A K → List ℕ
counted_in room = room.waiting.items

-- Each of these counts was read of its actor.
abbrev pub AreCounted : List Observation → List ℕ → Type 0
AreCounted log waiting = (id n : ℕ) → slice_get waiting id ≡ Some n → IsAmong (Counted id n) log

-- Nothing was done but that waiting counts were read, each of one actor. All else that is known is as it was. What is owed to an actor is as it was,
-- or no longer includes a look for envelopes, where none was read as waiting.
pub record HasOnlyCounted (before after : View) : Type 0 where
  pub counts : List (ℕ × ℕ)
  pub log_is : after.log ≡ map (λ (c : ℕ × ℕ). Counted c.0 c.1) counts ++ before.log
  pub same : after ≡ record before { log = after.log; obligations = after.obligations }
  pub owed : (actor : ℕ) → (obligation_to actor after ≡ obligation_to actor before)
      ⊎ ((obligation_to actor after ≡ record (obligation_to actor before) { message = false }) × IsAmong (actor, 0) counts)

-- There is room for what is left of so many actors and of so many senders outside, and for as many envelopes of each actor as were counted.
pub record IsRoom {A K : Type 0} (actors outside : ℕ) (room : Room A K) : Type 0 where
  pub counted : length room.waiting.items ≡ actors
  pub lefts : AllZip IsEmptyWithRoom room.waiting.items room.lefts.items
  pub homes : (room.homes.items ≡ []) × (actors ≤ vec_capacity room.homes)
  pub ended : (room.ended.items ≡ []) × (actors ≤ vec_capacity room.ended)
  pub takes : (room.takes.items ≡ []) × (actors ≤ vec_capacity room.takes)
  pub rows : (room.rows.items ≡ []) × (actors + outside ≤ vec_capacity room.rows)
  pub reports : (room.actors.items ≡ []) × (actors ≤ vec_capacity room.actors)
  pub senders : (room.senders.items ≡ []) × (actors + outside ≤ vec_capacity room.senders)
