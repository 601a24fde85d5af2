-- The state of the abstract machine that the table shows of an actor (this project's own profile): its words, and what all views owe it. The
-- envelopes are no part of the table.
use Rattle.std.specs.Prelude.{◌≡◌, ◌≢◌, ◌↔◌, ◌⊎◌, ℕ, ◌<◌, false, if◌then◌else◌, List, [], ◌++◌, map, Option, Some, None, IsNone}
use mathlib.Core.Option.{some}
use lib.ListN.{get_elem?}
use Rattle.atomic_table.specs.Table.{State}
use Rattle.mb_status.specs.Mailbox.{mailbox_of, word_of}
use Rattle.mb_msg.specs.declared.system.SysMsg.{SysMsg}
use Rattle.mb_journal.specs.Entry.{Entry}
use Rattle.mb_core.specs.Actor.{MachineActor}
use Rattle.mb_core.specs.Held.{IsHeldRightly, HasPossibleMailbox}
use Rattle.mb_core.specs.Settled.{IsSettled}
use Rattle.mb_ghost.specs.Layout.{Spot, spot_of}
use Rattle.mb_ghost.specs.Ruled.{Ruled}
use Rattle.mb_ghost.specs.Seen.{Each}
use Rattle.mb_ghost.specs.Shares.{IsWhole}
use Rattle.mb_gate.specs.HomeFacts.{HomeFacts}
use Rattle.mb_gate.specs.declared.slot.Slot.{Slot}
use Rattle.mb_gate.specs.declared.slot.Slot.TheVariants.{Home}
use Rattle.mb_gate.specs.View.{View, Observation, Pushed, Drained, Ended, Held, obligation_to, alone, copied, halving, idling, taking_in, taking_over}
use Rattle.mb_gate.specs.Waiting.{on_by, off_by, IsBalance}
use Rattle.mb_gate.specs.ClaimCounts.{claims_got}
use Rattle.mb_gate.specs.Releases.{taken_by, back_by}
use Rattle.mb_gate.specs.Returned.{IsKept}
use Rattle.mb_gate.specs.Rule.{Word, Status, Waiting, word_offset, SlotName, CellSlot, slot_offset, Ghost, IsAmong, claim_for, Fact}

-- Which seat holds the actor, if any.
abbrev pub holder_of : Option (ℕ × Held) → Option ℕ
holder_of None = None
holder_of (Some h) = Some h.0

-- The system work: none where the list is ended, else this rest of what was drained and not applied, in front of what is listed.
abbrev pub work_of : Ghost → List SysMsg → Option (List SysMsg)
work_of g rest = if g.listed.closed then None else Some (rest ++ g.listed.messages)

-- The actor of the machine, with this rest of what was drained and not applied.
abbrev pub shown : {H : Type 0} → ℕ → Spot Word SlotName (Slot H) Ghost → List View → List SysMsg → MachineActor
shown actor x vs rest = record {
  mailbox = mailbox_of (x.row Status);
  envelopes = [];
  waiting = x.row Waiting;
  system = work_of x.ghost rest;
  holder = holder_of x.ghost.holder;
  owed = map (obligation_to actor) vs;
}

-- The machine's facts hold of each actor, by the rule: who holds it, which mailbox it has, and that nothing is stranded, where something
-- is left of what was drained only if the last drain gave something.
abbrev pub ShowsMachine : {H : Type 0} → (ℕ → H → Type 0) → (H → HomeFacts) → Type 0
ShowsMachine {H} is_of facts =
    (n : ℕ) (s : State (Slot H) View) (r : Ruled word_offset slot_offset n (Fact is_of facts n) s) (actor : ℕ)
    → actor < n →
    (let x = spot_of word_offset slot_offset s r.ghosts actor in
    (rest : List SysMsg) → (x.ghost.gave ≡ false → rest ≡ []) →
    HasPossibleMailbox (shown actor x s.views rest) × IsHeldRightly (shown actor x s.views rest) × IsSettled (shown actor x s.views rest))

-- The actor's cell is in its slot.
abbrev pub IsAtHome : {H : Type 0} → Spot Word SlotName (Slot H) Ghost → Type 0
IsAtHome {H} x = (home : H) × (x.slot CellSlot ≡ some (some (Home home)))

-- Who has a claim of an actor holds it, and knows its status word; who holds it has a claim of it; its cell is in its slot exactly where
-- nobody holds it; and what is in that slot is its own home, whose journal says the word.
abbrev pub ShowsClaims : {H : Type 0} → (ℕ → H → Type 0) → (H → HomeFacts) → Type 0
ShowsClaims {H} is_of facts =
    (n : ℕ) (s : State (Slot H) View) (r : Ruled word_offset slot_offset n (Fact is_of facts n) s) (actor : ℕ)
    → actor < n →
    (let x = spot_of word_offset slot_offset s r.ghosts actor in
    ((p : ℕ) (v : View) (claim : Held) → get_elem? s.views p ≡ some v → claim_for actor v ≡ Some claim
    → (holder_of x.ghost.holder ≡ Some p) × (x.row Status ≡ claim.word))
    × ((p : ℕ) → holder_of x.ghost.holder ≡ Some p
    → (v : View) × (claim : Held) × (get_elem? s.views p ≡ some v) × (claim_for actor v ≡ Some claim))
    × (IsNone (holder_of x.ghost.holder) ↔ IsAtHome x)
    × ((home : H) → x.slot CellSlot ≡ some (some (Home home)) → is_of actor home × (x.row Status ≡ word_of (facts home).mailbox)))

-- What each seat has seen of an actor is so: the actor is closed if it was seen closed, or its list was ended, and the journal that its cell
-- has at home, or had as it was taken, extends each that was seen.
abbrev pub ShowsSeen : {H : Type 0} → (ℕ → H → Type 0) → (H → HomeFacts) → Type 0
ShowsSeen {H} is_of facts =
    (n : ℕ) (s : State (Slot H) View) (r : Ruled word_offset slot_offset n (Fact is_of facts n) s) (actor : ℕ)
    → actor < n → (p : ℕ) (v : View) → get_elem? s.views p ≡ some v →
    (let x = spot_of word_offset slot_offset s r.ghosts actor in
    ((home : H) → x.slot CellSlot ≡ some (some (Home home)) → Each (IsKept actor (facts home).journal (x.row Status)) v.log)
    × ((q : ℕ) (w : View) (claim : Held) → get_elem? s.views q ≡ some w → claim_for actor w ≡ Some claim
    → Each (IsKept actor claim.journal (x.row Status)) v.log))

-- Each actor that some home calls closed is closed, as its word says: whether that home is in its slot or was taken out of it.
abbrev pub ShowsClosed : {H : Type 0} → (ℕ → H → Type 0) → (H → HomeFacts) → Type 0
ShowsClosed {H} is_of facts =
    (n : ℕ) (s : State (Slot H) View) (r : Ruled word_offset slot_offset n (Fact is_of facts n) s)
    (actor other : ℕ)
    → actor < n → other < n → IsAmong other (spot_of word_offset slot_offset s r.ghosts actor).ghost.closed_to
    → (spot_of word_offset slot_offset s r.ghosts other).row Status ≡ 1

-- If the party with the whole share got no claim of an actor, the actor's own home is in its slot, its journal says the word, and neither
-- the actor nor its list is closed.
abbrev pub ShowsUnclaimed : {H : Type 0} → (ℕ → H → Type 0) → (H → HomeFacts) → Type 0
ShowsUnclaimed {H} is_of facts =
    (n : ℕ) (s : State (Slot H) View) (r : Ruled word_offset slot_offset n (Fact is_of facts n) s) (actor : ℕ)
    → actor < n → (p : ℕ) (v : View) → get_elem? s.views p ≡ some v → IsWhole v.share → claims_got actor v ≡ 0 →
    (let x = spot_of word_offset slot_offset s r.ghosts actor in
    ((home : H) × (x.slot CellSlot ≡ some (some (Home home))) × is_of actor home × (x.row Status ≡ word_of (facts home).mailbox))
    × (x.row Status ≢ 1) × (x.ghost.listed.closed ≡ false))

-- Between any two steps an actor's waiting number is what all passes and claims counted on less what they counted off, modulo 2^64.
abbrev pub ShowsBalance : {H : Type 0} → (ℕ → H → Type 0) → (H → HomeFacts) → Type 0
ShowsBalance {H} is_of facts =
    (n : ℕ) (s : State (Slot H) View) (r : Ruled word_offset slot_offset n (Fact is_of facts n) s) (actor : ℕ)
    → actor < n → IsBalance actor ((spot_of word_offset slot_offset s r.ghosts actor).row Waiting) s.views

-- A number names one message of an actor's list: what any seat put into the list under a number is what any seat took out of it under that number.
abbrev pub ShowsNumbers : {H : Type 0} → (ℕ → H → Type 0) → (H → HomeFacts) → Type 0
ShowsNumbers {H} is_of facts =
    (n : ℕ) (s : State (Slot H) View) (r : Ruled word_offset slot_offset n (Fact is_of facts n) s) (actor : ℕ)
    → actor < n → (p q : ℕ) (v w : View) (number : ℕ) (put given : SysMsg) (all : List (ℕ × SysMsg)) → get_elem? s.views p ≡ some v → get_elem? s.views q ≡
    some w → IsAmong (Pushed actor number put) v.log → IsAmong (Drained actor all) w.log ⊎ IsAmong (Ended actor all) w.log → IsAmong (number, given)
    all → put ≡ given

-- Two views know the same: they made the same observations, in whatever order, and counted, sent and owe the same; and they took and gave back the same
-- journals.
pub record KnowsTheSame (v w : View) : Type 0 where
  pub seen : (s : Observation) → IsAmong s v.log ↔ IsAmong s w.log
  pub on : (actor : ℕ) → on_by actor v ≡ on_by actor w
  pub off : (actor : ℕ) → off_by actor v ≡ off_by actor w
  pub sent_system : v.sent_system ≡ w.sent_system
  pub owed : (actor : ℕ) → obligation_to actor v ≡ obligation_to actor w
  pub releases : (actor : ℕ) (measure : List Entry → ℕ)
      → (taken_by actor measure v ≡ taken_by actor measure w) × (back_by actor measure v ≡ back_by actor measure w)

-- It makes no difference whether a claim's seat takes in the pass before it gives the cell home, or the pass takes over afterwards what the claim's
-- seat knew.
abbrev pub ReleasesAlike : Type 0
ReleasesAlike = (claim pass : View) (actor : ℕ) (journal : List Entry) → KnowsTheSame (idling actor journal (taking_in claim pass)) (taking_over pass
    (idling actor journal claim))

-- The first pass has the whole share. A pass that had it has it again once it took over what was split off it.
abbrev pub MakesWhole : Type 0
MakesWhole = IsWhole alone.share × ((v : View) → IsWhole v.share → IsWhole (taking_over (halving v) (copied v)).share)
