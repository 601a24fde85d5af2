-- A step of the gates' table, and the event of the abstract machine that it is (this project's own profile).
use Rattle.std.specs.Prelude.{◌≡◌, ◌≢◌, ℕ, ◌<◌, false, List, [], length, slice_index}
use mathlib.Core.Option.{some}
use lib.ListN.{get_elem?}
use Rattle.atomic_table.specs.Table.{State, Me, Act, Valid, stepped, carried_after}
use Rattle.mb_msg.specs.declared.system.SysMsg.{SysMsg}
use Rattle.mb_core.specs.declared.event.Step.{Step}
use Rattle.mb_core.specs.Actor.{MachineActor}
use Rattle.mb_core.specs.Run.{Change}
use Rattle.mb_ghost.specs.Layout.{spot_of}
use Rattle.mb_ghost.specs.Ruled.{Ruled}
use Rattle.mb_gate.specs.HomeFacts.{HomeFacts}
use Rattle.mb_gate.specs.declared.slot.Slot.{Slot}
use Rattle.mb_gate.specs.View.{View}
use Rattle.mb_gate.specs.Rule.{word_offset, slot_offset, Ghost, Fact}
use Rattle.mb_gate.specs.Shown.{shown}

module _ {H : Type 0} where
  -- One seat makes a step on a word of the table, which it writes. It may take a thing out of a slot or put one in. Its view becomes another, of
  -- which this is told, as of what the seat carries then and of the word that was there. Nothing else changes.
  pub record IsStep (word id : ℕ) (me : Me (Slot H) View) (written : ℕ → ℕ) (act : Act (Slot H)) (tells : ℕ → Me (Slot H) View → Type 0) (s s' :
      State (Slot H) View) : Type 0 where
    pub view : View
    pub present : get_elem? s.views id ≡ some me.0
    pub able : Valid s.homes me.1 act
    pub after : s' ≡ stepped s word (written (slice_index s.words word)) id me.1 view act
    pub told : tells (slice_index s.words word) (view, carried_after me.1 act)

-- something is left of what was drained only if the last drain gave something
abbrev pub IsMarked : Ghost → List SysMsg → Type 0
IsMarked g rest = g.gave ≡ false → rest ≡ []

module _ {H : Type 0} (is_of : ℕ → H → Type 0) (facts : H → HomeFacts) where
  -- the rule of the gates of so many actors holds
  abbrev pub Rule : ℕ → State (Slot H) View → Type 0
  Rule n = Ruled word_offset slot_offset n (Fact is_of facts n)

  -- what the table shows of an actor, where this is the rest of what was drained and not applied
  abbrev pub shows : (n : ℕ) (s : State (Slot H) View) → Rule n s → ℕ → List SysMsg → MachineActor
  shows n s r actor rest = shown actor (spot_of word_offset slot_offset s r.ghosts actor) s.views rest

  -- What the table shows of this actor is as it was, and so is whether something may be left of what was drained.
  pub record IsShownTheSame (n : ℕ) (s : State (Slot H) View) (r : Rule n s) (s' : State (Slot H) View) (r' : Rule n s') (actor : ℕ) : Type 0 where
    pub same : (rest : List SysMsg) → shows n s' r' actor rest ≡ shows n s r actor rest
    pub marked : (rest : List SysMsg) → IsMarked (r.ghosts actor) rest → IsMarked (r'.ghosts actor) rest

  -- Between two tables lies this step of the machine, by this party on this actor. What is left of what was drained is one thing before and
  -- another after. Each other actor is shown as it was.
  pub record IsEvent (n : ℕ) (s : State (Slot H) View) (r : Rule n s) (s' : State (Slot H) View) (r' : Rule n s') (actor party : ℕ) (step : Step)
      (rest rest' : List SysMsg) : Type 0 where
    pub present : party < length s.views
    pub change : Change (shows n s r actor rest) party step (shows n s' r' actor rest')
    pub marked : IsMarked (r.ghosts actor) rest → IsMarked (r'.ghosts actor) rest'
    pub others : (other : ℕ) → other < n → other ≢ actor → IsShownTheSame n s r s' r' other

  -- Between two tables lies no event: each actor is shown as it was.
  abbrev pub IsNoEvent : (n : ℕ) (s : State (Slot H) View) → Rule n s → (s' : State (Slot H) View) → Rule n s' → Type 0
  IsNoEvent n s r s' r' = (actor : ℕ) → actor < n → IsShownTheSame n s r s' r' actor
