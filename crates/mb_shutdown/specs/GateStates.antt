-- What the shared words and slots of gates can be between two atomic steps of any of the threads.
use Rattle.std.specs.Prelude.{◌≡◌, ℕ, Some, slice_index}
use Rattle.std.specs.Global.{Box}
use mathlib.Core.Option.{some}
use lib.ListN.{get_elem?}
use Rattle.atomic_table.specs.Table.{State}
use Rattle.mb_actor.specs.Behaviour.{Moment, Reply}
use Rattle.mb_ghost.specs.Layout.{slot_at, word_at}
use Rattle.mb_ghost.specs.Ruled.{Ruled}
use Rattle.mb_gate.specs.Accessors.{actors_of, first_home}
use Rattle.mb_gate.specs.Rule.{Status, word_offset, CellSlot, slot_offset, Fact, claim_for}
use Rattle.mb_gate.specs.View.{View, Held}
use Rattle.mb_gate.specs.declared.gates.Gates.{Gates}
use Rattle.mb_gate.specs.declared.slot.Slot.{Slot}
use Rattle.mb_gate.specs.declared.slot.Slot.TheVariants.{Home}
use Rattle.mb_home.specs.AtHome.{IsHomeOf, facts_of}
use Rattle.mb_home.specs.Contents.{Contents}

-- A state of the gates' table: its words, its slots, and what each party knows.
abbrev pub GatesState : Type 0
GatesState = State (Slot (Box Contents)) View

-- The gates can be in this state: it meets the rule of their table, which each atomic step keeps.
abbrev pub IsStateOf : (ℕ → Moment → Reply → Type 0) → Gates (Box Contents) → GatesState → Type 0
IsStateOf gives gates =
    Ruled word_offset slot_offset (actors_of gates)
    (Fact (λ actor home. IsHomeOf (gives actor) (first_home gates).value actor home.value) (λ home. facts_of home.value) (actors_of gates))

-- The party of this seat has a claim of the actor, which is the right to run it.
abbrev pub Holds : GatesState → ℕ → ℕ → Type 0
Holds state seat actor = (view : View) × (claim : Held) × (get_elem? state.views seat ≡ some view) × (claim_for actor view ≡ Some claim)

-- Nobody has a claim of the actor.
abbrev pub IsFree : GatesState → ℕ → Type 0
IsFree state actor = (seat : ℕ) → Holds state seat actor → ⊥

-- This home lies in the actor's slot.
abbrev pub IsInSlot : GatesState → ℕ → Box Contents → Type 0
IsInSlot state actor home = get_elem? state.homes (slot_at actor (slot_offset CellSlot)) ≡ some (some (Home home))

-- The actor's status word.
abbrev pub status_word : GatesState → ℕ → ℕ
status_word state actor = slice_index state.words (word_at actor (word_offset Status))
