-- A rule of a table that is a fact of each place (of its words, slots and ghost state) and of all seats' views.
use Rattle.std.specs.Prelude.{◌≡◌, ◌≢◌, ℕ, ◌*◌, ◌<◌, List, ◌∷◌, length, slice_set}
use mathlib.Core.Option.{Option, none, some}
use Rattle.atomic_table.specs.Table.{State, Me, Act, keeps, takes, gives, carried_after}
use Rattle.mb_ghost.specs.Layout.{slot_at, Spot, spot_of, write, fill}

-- the table has `places` places, and the fact holds of each
pub record Ruled {W P S G V : Type 0} (word_offset : W → ℕ) (slot_offset : P → ℕ) (places : ℕ) (Fact : ℕ → Spot W P S G → List V → Type 0) (s :
    State S V) : Type 0 where
  pub ghosts : ℕ → G
  pub word_count : length s.words ≡ 32 * places
  pub slot_count : length s.homes ≡ 2 * places
  pub each : (place : ℕ) → place < places → Fact place (spot_of word_offset slot_offset s ghosts place) s.views

-- what a step does with the slots of its place: nothing; or it takes a thing out of one; or it puts one in
pub data SlotStep (P S : Type 0) : Type 0 where
  stays : SlotStep P S
  takes_from : P → S → SlotStep P S
  gives_to : P → S → SlotStep P S

module _ {P S : Type 0} (slot_offset : P → ℕ) where
  abbrev pub act_of : ℕ → SlotStep P S → Act S
  act_of place stays = keeps
  act_of place (takes_from p x) = takes (slot_at place (slot_offset p)) x
  act_of place (gives_to p x) = gives

  -- it takes what is in the slot, and puts in what it has
  abbrev pub IsAble : ℕ → (P → Option (Option S)) → List (ℕ × S) → SlotStep P S → Type 0
  IsAble place slot carried stays = Unit {0}
  IsAble place slot carried (takes_from p x) = slot p ≡ some (some x)
  IsAble place slot carried (gives_to p x) = (rest : List (ℕ × S)) × (carried ≡ (slot_at place (slot_offset p), x) ∷ rest)

  abbrev pub slot_after : (P → Option (Option S)) → SlotStep P S → P → Option (Option S)
  slot_after slot stays = slot
  slot_after slot (takes_from p x) = fill slot_offset slot p none
  slot_after slot (gives_to p x) = fill slot_offset slot p (some x)

module _ {W P S G V : Type 0} (word_offset : W → ℕ) (slot_offset : P → ℕ) where
  -- The step of one seat at this place, which writes n into the word with this name: the view that the seat has after it,
  -- what it does with a slot, and the place's ghost state after it; that the fact holds there again, and of the other
  -- places still; and what the step guarantees
  pub record RuledStep (Fact : ℕ → Spot W P S G → List V → Type 0) (place id : ℕ) (me : Me S V) (name : W) (n : ℕ) (tell : Me S V → Type 0) (x : Spot
      W P S G) (vs : List V) : Type 0 where
    pub view : V
    pub slot_step : SlotStep P S
    pub kept : G
    pub is_able : IsAble slot_offset place x.slot me.1 slot_step
    pub holds : Fact place (record { row = write word_offset x.row name n; slot = slot_after slot_offset x.slot slot_step; ghost = kept }) (slice_set
        vs id view)
    pub others : (a : ℕ) → a ≢ place → (y : Spot W P S G) → Fact a y vs → Fact a y (slice_set vs id view)
    pub tells : tell (view, carried_after me.1 (act_of slot_offset place slot_step))
