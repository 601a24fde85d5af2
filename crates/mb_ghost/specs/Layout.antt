-- Where the words and slots of a place lie in a table: thirty-two words and two slots for each place.
use Rattle.std.specs.Prelude.{◌≡◌, ℕ, ◌+◌, ◌*◌, ◌<◌, ◌==◌, if◌then◌else◌, slice_index}
use mathlib.Core.Option.{Option, none, some}
use lib.ListN.{get_elem?}
use Rattle.atomic_table.specs.Table.{State}

-- the number of a word of a place: each place has thirty-two
abbrev pub word_at : ℕ → ℕ → ℕ
word_at place offset = 32 * place + offset

-- the number of a slot of a place: each place has two
abbrev pub slot_at : ℕ → ℕ → ℕ
slot_at place offset = 2 * place + offset

-- the words and slots of one place, by their names, and its ghost state
pub record Spot (W P S G : Type 0) : Type 0 where
  pub row : W → ℕ
  pub slot : P → Option (Option S)
  pub ghost : G

module _ {W P S G V : Type 0} (word_offset : W → ℕ) (slot_offset : P → ℕ) where
  -- the place's words and slots, as they are in the table
  abbrev pub spot_of : State S V → (ℕ → G) → ℕ → Spot W P S G
  spot_of s ghosts place = record {
    row = λ w. slice_index s.words (word_at place (word_offset w));
    slot = λ p. get_elem? s.homes (slot_at place (slot_offset p));
    ghost = ghosts place;
  }

-- the row with another word at this name
abbrev pub write : {W : Type 0} → (W → ℕ) → (W → ℕ) → W → ℕ → W → ℕ
write offset row name word w = if offset w == offset name then word else row w

-- the slots with another at this name
abbrev pub fill : {P S : Type 0} → (P → ℕ) → (P → Option (Option S)) → P → Option S → P → Option (Option S)
fill offset slot name thing p = if offset p == offset name then some thing else slot p

-- the ghost state of each place, with another one at this place
abbrev pub put : {G : Type 0} → (ℕ → G) → ℕ → G → ℕ → G
put ghosts place g a = if a == place then g else ghosts a
