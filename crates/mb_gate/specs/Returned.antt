-- What the gates give back of each actor at their end (this project's own profile).
use Rattle.std.specs.Prelude.{◌≡◌, ◌≢◌, ◌⊎◌, ℕ, ◌+◌, ◌%◌, ◌<◌, Bool, false, List, [], length, Option, Some, None, slice_get, slice_set}
use mathlib.Core.Option.{some}
use lib.ListN.{get_elem?}
use Rattle.atomic_table.specs.Table.{State}
use Rattle.mb_status.specs.Mailbox.{word_of}
use Rattle.mb_syslist.specs.MessageList.{MessageList}
use Rattle.mb_journal.specs.Entry.{Entry}
use Rattle.mb_ghost.specs.Layout.{Spot, spot_of, word_at, slot_at}
use Rattle.mb_ghost.specs.Ruled.{Ruled}
use Rattle.mb_ghost.specs.Seen.{Each}
use Rattle.mb_ghost.specs.Shares.{IsWhole}
use Rattle.mb_gate.specs.HomeFacts.{HomeFacts}
use Rattle.mb_gate.specs.declared.slot.Slot.{Slot}
use Rattle.mb_gate.specs.declared.slot.Slot.TheVariants.{Home, List as Listing}
use Rattle.mb_gate.specs.declared.returned_actor.ReturnedActor.{ReturnedActor}
use Rattle.mb_gate.specs.View.{View, Observation, Read, Saw, Counted, Looked, Sent, Unsent, Took, Pushed, Drained, Ended}
use Rattle.mb_gate.specs.ClaimCounts.{claims_got, claims_returned}
use Rattle.mb_gate.specs.PutIn.{put_by}
use Rattle.mb_gate.specs.Releases.{back_by, taken_by}
use Rattle.mb_ghost.specs.Summed.{total}
use Rattle.mb_msg.specs.declared.system.SysMsg.{SysMsg}
use Rattle.mb_gate.specs.Rule.{Word, Status, word_offset, SlotName, slot_offset, Ghost, Extends, IsAmong, WasPushed, all_numbered, Fact, is_some_item}

-- By its words, the actor's cell and its list are in their slots: the actor is not scheduled, or it is closed and its flag is set; and the gate of
-- its list is not locked.
pub record TellsHome (words : List ℕ) (actor : ℕ) : Type 0 where
  pub status : ℕ
  pub flag : ℕ
  pub gate : ℕ
  pub status_is : get_elem? words (word_at actor 16) ≡ some status
  pub flag_is : get_elem? words (word_at actor 7) ≡ some flag
  pub gate_is : get_elem? words (word_at actor 17) ≡ some gate
  pub cell : (status % 4 ≡ 0) ⊎ (flag ≡ 1)
  pub list : gate % 2 ≡ 0

-- Which slots are filled, once the two of this actor were emptied.
abbrev pub emptied_at : ℕ → List Bool → List Bool
emptied_at actor filled = slice_set (slice_set filled (slot_at actor 0) false) (slot_at actor 1) false

-- What was taken out of the words and slots of the actor: its home and its list, where both were in their slots.
abbrev pub IsTakenOut : {H : Type 0} → List ℕ → List (Slot H) → ℕ → Option (ReturnedActor H) → Type 0
IsTakenOut words slots actor (Some left) = TellsHome words actor × (get_elem? slots (slot_at actor 0) ≡ some (Home left.home))
    × ((list : MessageList) × (get_elem? slots (slot_at actor 1) ≡ some (Listing list)) × (left.given ≡ list.given)
    × (left.listed ≡ is_some_item list.messages))
IsTakenOut {H} words slots actor None = (home : H) (list : MessageList) → TellsHome words actor → get_elem? slots (slot_at actor 0) ≡ some (Home
    home) → get_elem? slots (slot_at actor 1) ≡ some (Listing list) → ⊥

-- This observation holds of an actor that is left with this journal and this status word.
abbrev pub IsKept : ℕ → List Entry → ℕ → Observation → Type 0
IsKept actor journal word (Read a seen) = a ≡ actor → seen ≡ 1 → word ≡ 1
IsKept actor journal word (Saw a before) = a ≡ actor → Extends journal before
IsKept actor journal word (Ended a given) = a ≡ actor → word ≡ 1
IsKept actor journal word (Counted a n) = Unit {0}
IsKept actor journal word (Looked a has_work) = Unit {0}
IsKept actor journal word (Sent a n) = Unit {0}
IsKept actor journal word (Unsent a n) = Unit {0}
IsKept actor journal word (Took a n) = Unit {0}
IsKept actor journal word (Pushed a n m) = Unit {0}
IsKept actor journal word (Drained a given) = Unit {0}

-- This observation holds of an actor of which a claim was taken with this journal: it goes on from each journal that was seen of the actor.
abbrev pub GoesOn : ℕ → List Entry → Observation → Type 0
GoesOn actor journal (Saw a before) = a ≡ actor → Extends journal before
GoesOn actor journal (Read a seen) = Unit {0}
GoesOn actor journal (Ended a given) = Unit {0}
GoesOn actor journal (Counted a n) = Unit {0}
GoesOn actor journal (Looked a has_work) = Unit {0}
GoesOn actor journal (Sent a n) = Unit {0}
GoesOn actor journal (Unsent a n) = Unit {0}
GoesOn actor journal (Took a n) = Unit {0}
GoesOn actor journal (Pushed a n m) = Unit {0}
GoesOn actor journal (Drained a given) = Unit {0}

module _ {H : Type 0} (is_of : ℕ → H → Type 0) (facts : H → HomeFacts) where
  -- What is left of an actor whose words and slots these are: its home, which is its own; its word is the one of its journal, which goes
  -- on from all that was seen; how many its list gave, which the home knows, and whether any message is listed still; and unless the actor
  -- is open and its last drain gave something, nothing is left beside its cell. There is none only where a claim has the cell, or a seat
  -- the list.
  abbrev pub IsReturned : ℕ → Spot Word SlotName (Slot H) Ghost → View → Option (ReturnedActor H) → Type 0
  IsReturned actor x v (Some left) = is_of actor left.home × (x.row Status ≡ word_of (facts left.home).mailbox)
      × Each (IsKept actor (facts left.home).journal
      (x.row Status)) v.log × (left.given ≡ x.ghost.listed.given) × (left.listed ≡ is_some_item x.ghost.listed.messages)
      × ((facts left.home).given ≡ left.given) × ((x.row Status ≡ 1) ⊎ (x.ghost.gave ≡ false) → (facts left.home).no_backlog)
  IsReturned actor x v None = (x.ghost.holder ≢ None) ⊎ (x.ghost.lent_to ≢ None)

  -- of each actor, in a last state of the table that meets the rule, in which the pass has this view; and each actor of which a home that
  -- is left says that it is closed is closed; and each message of which it says that its list gave it was put into this list, under this
  -- number. A pass that has taken in all others knows which actors have no home left: those of which a claim was got that was not given
  -- back. What it logs as put into the list of an actor whose home is left is all that was ever put into it, and that home's journal is what came of
  -- an empty one in its releases.
  pub record AreReturned (actors : ℕ) (v : View) (all : List (Option (ReturnedActor H))) : Type 0 where
    pub state : State (Slot H) View
    pub rule : Ruled word_offset slot_offset actors (Fact is_of facts actors) state
    pub seat : ℕ
    pub known : get_elem? state.views seat ≡ some v
    pub same_count : length all ≡ actors
    pub each : (actor : ℕ) (left : Option (ReturnedActor H)) → actor < actors → slice_get all actor ≡ Some left
        → IsReturned actor (spot_of word_offset slot_offset state rule.ghosts actor) v left
    pub out : IsWhole v.share → (actor : ℕ) → actor < actors → slice_get all actor ≡ Some None → claims_got actor v ≡ claims_returned actor v + 1
    pub back : IsWhole v.share → (actor : ℕ) (left : ReturnedActor H) → actor < actors → slice_get all actor ≡ Some (Some left) → claims_got actor v ≡ claims_returned
        actor v
    pub closed : (actor other : ℕ) (left : ReturnedActor H) → actor < actors → other < actors → slice_get all actor ≡ Some (Some left)
        → IsAmong other (facts left.home).closed_to → (spot_of word_offset slot_offset state rule.ghosts other).row Status ≡ 1
    pub pushed : (actor : ℕ) (left : ReturnedActor H) → actor < actors → slice_get all actor ≡ Some (Some left)
        → Each (WasPushed (spot_of word_offset slot_offset state rule.ghosts actor).ghost) (facts left.home).drained
    pub put : IsWhole v.share → (actor : ℕ) (left : ReturnedActor H) → actor < actors → slice_get all actor ≡ Some (Some left)
        → (measure : ℕ × SysMsg → ℕ)
        → put_by actor measure v ≡ total measure (all_numbered (spot_of word_offset slot_offset state rule.ghosts actor).ghost)
    pub releases : IsWhole v.share → (actor : ℕ) (left : ReturnedActor H) → actor < actors → slice_get all actor ≡ Some (Some left)
        → (measure : List Entry → ℕ)
        → back_by actor measure v + measure [] ≡ taken_by actor measure v + measure (facts left.home).journal
