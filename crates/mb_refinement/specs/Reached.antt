-- Where any list of steps leads (this project's own profile). Nothing is asked of a table after the first, nor of new gates.
use Rattle.std.specs.Prelude.{◌≡◌, ℕ, ◌<◌, All, List, [], map, length, Some, slice_get}
use Rattle.atomic_table.specs.Table.{State, opening}
use Rattle.mb_status.specs.Mailbox.{word_of}
use Rattle.mb_core.specs.Run.{start}
use Rattle.mb_core.specs.Held.{IsHeldRightly, HasPossibleMailbox}
use Rattle.mb_core.specs.Settled.{IsSettled}
use Rattle.mb_core.specs.Between.{StaysEnded}
use Rattle.mb_gate.specs.HomeFacts.{HomeFacts}
use Rattle.mb_gate.specs.declared.slot.Slot.{Slot}
use Rattle.mb_gate.specs.View.{View, alone}
use Rattle.mb_gate.specs.Starts.{rows_of, slots_of, IsFresh}
use Rattle.mb_refinement.specs.Refines.{Rule, shows}
use Rattle.mb_refinement.specs.Interleavings.{Move, Rests, Path, machine}
use Rattle.mb_refinement.specs.TableMoves.{AreMarked, TableSteps}

-- The table meets the rule. From the machine's start, with the words that the homes have, the moves lead to the state that it shows. There each actor
-- is held as it should be, has a possible mailbox, and has nothing stranded.
pub record IsReached {H : Type 0} (is_of : ℕ → H → Type 0) (facts : H → HomeFacts) (hs : List H) (moves : List Move) (s : State (Slot H) View)
    (rests : Rests) : Type 0 where
  pub rule : Rule is_of facts (length hs) s
  pub path : Path (start (map (λ h. word_of (facts h).mailbox) hs) 1) moves (machine is_of facts (length hs) s rule rests)
  pub held : All IsHeldRightly (machine is_of facts (length hs) s rule rests)
  pub possible : All HasPossibleMailbox (machine is_of facts (length hs) s rule rests)
  pub settled : All IsSettled (machine is_of facts (length hs) s rule rests)

-- Any list of steps of the table, by any seats, from new gates of fresh homes leads there.
abbrev pub StepsFromNewGates : {H : Type 0} → (H → ℕ → H → Type 0) → H → (H → HomeFacts) → Type 0
StepsFromNewGates {H} is_of first facts =
    (hs : List H) (s : State (Slot H) View) (rests : Rests) (moves : List Move)
    → ((a : ℕ) (h : H) → slice_get hs a ≡ Some h → IsFresh (is_of first) facts a h)
    → TableSteps is_of first facts (length hs) (opening (rows_of facts hs) (slots_of hs) alone) (λ a. []) moves s rests
    → IsReached (is_of first) facts hs moves s rests

-- What is closed at one table, or whose list is ended, is so after any list of steps, at a table that meets the rule too.
abbrev pub StepsKeepEnded : {H : Type 0} → (H → ℕ → H → Type 0) → H → (H → HomeFacts) → Type 0
StepsKeepEnded {H} is_of first facts =
    (n : ℕ) (s s' : State (Slot H) View) (r : Rule (is_of first) facts n s) (rests rests' : Rests) (moves : List Move)
    → AreMarked (is_of first) facts n s r rests → TableSteps is_of first facts n s rests moves s' rests'
    → (r' : Rule (is_of first) facts n s') × ((actor : ℕ) → actor < n
    → StaysEnded (shows (is_of first) facts n s r actor (rests actor)) (shows (is_of first) facts n s' r' actor (rests' actor)))
