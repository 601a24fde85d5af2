-- What the words and slots show of an actor that nobody ran (this project's own profile: in Akka the cell is the mailbox's own).
use Rattle.std.specs.Prelude.{◌≡◌, ◌≢◌, ℕ, ◌+◌, ◌%◌, ◌^◌, ◌<◌, List, [], ◌∷◌}
use Rattle.std.specs.List.{flat_map}
use mathlib.Core.Option.{some}
use lib.ListN.{get_elem?}
use Rattle.atomic_table.specs.Table.{State}
use Rattle.mb_status.specs.Mailbox.{word_of}
use Rattle.mb_msg.specs.declared.system.SysMsg.{SysMsg}
use Rattle.mb_ghost.specs.Layout.{Spot, spot_of}
use Rattle.mb_ghost.specs.Ruled.{Ruled}
use Rattle.mb_ghost.specs.Seen.{Each}
use Rattle.mb_ghost.specs.Shares.{IsWhole}
use Rattle.mb_ghost.specs.Summed.{total}
use Rattle.mb_gate.specs.HomeFacts.{HomeFacts}
use Rattle.mb_gate.specs.View.{View}
use Rattle.mb_gate.specs.PutIn.{put_by}
use Rattle.mb_gate.specs.Waiting.{on_by, off_by}
use Rattle.mb_gate.specs.declared.slot.Slot.{Slot}
use Rattle.mb_gate.specs.declared.slot.Slot.TheVariants.{Home}
use Rattle.mb_gate.specs.Rule.{Word, Status, Waiting, word_offset, SlotName, CellSlot, slot_offset, Ghost, WasPushed, all_numbered, Fact}

-- Among the views of all seats these are the views of these seats, in order, no two of which are the same.
abbrev pub AreSeats : List ℕ → List View → List View → Type 0
AreSeats [] [] vs = Unit {0}
AreSeats (seat ∷ seats) (v ∷ known) vs = (get_elem? vs seat ≡ some v) × Each (λ other. other ≢ seat) seats × AreSeats seats known vs
AreSeats [] (v ∷ known) vs = ⊥
AreSeats (seat ∷ seats) [] vs = ⊥

-- What these views have of the whole, together.
abbrev pub shares_in : List View → List ℕ
shares_in = flat_map (λ (v : View). v.share)

-- The view got no claim of any actor, and gave no cell back.
abbrev pub RanNobody : View → Type 0
RanNobody v = (v.got ≡ []) × (v.releases ≡ [])

module _ {H : Type 0} (is_of : ℕ → H → Type 0) (facts : H → HomeFacts) where
  -- Nobody ran the actor, by all that these views did: its own home is in its slot, with an empty journal, which says its status word; it
  -- is neither scheduled nor closed; so many envelopes are counted as waiting as they counted on, less those that they counted off, modulo
  -- 2^64; all that was ever put into its list they put there; and what the home says its list gave is part of that.
  pub record IsNotRun (actor : ℕ) (x : Spot Word SlotName (Slot H) Ghost) (known : List View) : Type 0 where
    pub home : H
    pub present : x.slot CellSlot ≡ some (some (Home home))
    pub of_actor : is_of actor home
    pub journal : (facts home).journal ≡ []
    pub word : x.row Status ≡ word_of (facts home).mailbox
    pub free : x.row Status % 4 ≡ 0
    pub balance : (x.row Waiting + total (off_by actor) known) % 2 ^ 64 ≡ total (on_by actor) known % 2 ^ 64
    pub put : (measure : ℕ × SysMsg → ℕ) → total (put_by actor measure) known ≡ total measure (all_numbered x.ghost)
    pub drained : Each (WasPushed x.ghost) (facts home).drained

  -- In each state of so many actors in which some seats have these views, this holds of each actor.
  abbrev pub InEachState : ℕ → List View → (ℕ → Spot Word SlotName (Slot H) Ghost → Type 0) → Type 0
  InEachState n known P =
      (s : State (Slot H) View) (r : Ruled word_offset slot_offset n (Fact is_of facts n) s) (seats : List ℕ) → AreSeats seats known s.views
      → (actor : ℕ) → actor < n → P actor (spot_of word_offset slot_offset s r.ghosts actor)

  -- Where seats that have the whole share together ran nobody, nobody was run.
  abbrev pub ShowsNotRun : Type 0
  ShowsNotRun =
      (n : ℕ) (known : List View) → IsWhole (shares_in known) → Each RanNobody known → InEachState n known (λ actor x. IsNotRun actor x known)
