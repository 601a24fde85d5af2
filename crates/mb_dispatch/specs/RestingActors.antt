-- What holds of each actor of a system at rest (this project's own profile: Akka's dispatchers do not say when they have nothing to do).
use Rattle.std.specs.Prelude.{◌≡◌, ◌≢◌, ◌⊎◌, ℕ, ◌<◌, ◌%◌, false, List}
use mathlib.Core.Option.{some}
use Rattle.atomic_table.specs.Table.{State}
use Rattle.mb_status.specs.Mailbox.{word_of}
use Rattle.mb_core.specs.Actor.{nothing}
use Rattle.mb_ghost.specs.Layout.{Spot, spot_of}
use Rattle.mb_ghost.specs.Ruled.{Ruled}
use Rattle.mb_ghost.specs.Seen.{EachView}
use Rattle.mb_ghost.specs.Shares.{IsWhole}
use Rattle.mb_gate.specs.HomeFacts.{HomeFacts}
use Rattle.mb_gate.specs.NotRun.{AreSeats, shares_in}
use Rattle.mb_gate.specs.View.{View, obligation_to}
use Rattle.mb_gate.specs.declared.slot.Slot.{Slot}
use Rattle.mb_gate.specs.declared.slot.Slot.TheVariants.{Home}
use Rattle.mb_gate.specs.Rule.{Word, Status, Waiting, word_offset, SlotName, CellSlot, slot_offset, Ghost, has_work, Fact}
use Rattle.mb_dispatch.specs.AtRest.{NoClaimIsLeft}

-- Nobody owes the actor a look.
abbrev pub IsOwedNothing : ℕ → List View → Type 0
IsOwedNothing actor = EachView (λ (v : View). obligation_to actor v ≡ nothing)

module _ {H : Type 0} (is_of : ℕ → H → Type 0) (facts : H → HomeFacts) where
  -- The actor is at rest: its own home is in its slot, whose journal says its status word; it is closed or not scheduled; and if nobody owes it a
  -- look, no system work is left unless it is closed, and no envelope is counted as waiting where it is neither closed nor suspended.
  pub record RestsAt (actor : ℕ) (x : Spot Word SlotName (Slot H) Ghost) (views : List View) : Type 0 where
    pub home : H
    pub present : x.slot CellSlot ≡ some (some (Home home))
    pub of_actor : is_of actor home
    pub word : x.row Status ≡ word_of (facts home).mailbox
    pub unscheduled : (x.row Status % 4 ≡ 0) ⊎ (x.row Status ≡ 1)
    pub no_system_work : IsOwedNothing actor views → x.row Status ≢ 1 → has_work x.ghost ≡ false
    pub no_envelope : IsOwedNothing actor views → x.row Status ≡ 0 → x.row Waiting ≡ 0

  -- In each state of the gates in which parties have the whole share together, and no claim is out by what they know, each actor is at rest.
  abbrev pub ShowsRest : Type 0
  ShowsRest =
      (n : ℕ) (known : List View) → IsWhole (shares_in known) → NoClaimIsLeft n known
      → (s : State (Slot H) View) (r : Ruled word_offset slot_offset n (Fact is_of facts n) s) (seats : List ℕ) → AreSeats seats known s.views
      → (actor : ℕ) → actor < n → RestsAt actor (spot_of word_offset slot_offset s r.ghosts actor) s.views
