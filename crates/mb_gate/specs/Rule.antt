-- The rule of the gates' table: what holds of each actor between any two atomic steps (this project's own profile).
use Rattle.std.specs.Prelude.{
  ◌≡◌,
  ◌⊎◌,
  ℕ,
  ◌+◌,
  ◌<◌,
  ◌==◌,
  ◌%◌,
  ◌^◌,
  Bool,
  true,
  false,
  ◌||◌,
  IsTrue,
  if◌then◌else◌,
  List,
  [],
  ◌∷◌,
  ◌++◌,
  length,
  Option,
  Some,
  None,
  All,
}
use mathlib.Core.Option.{some, none}
use Rattle.mb_status.specs.Mailbox.{word_of, is_valid}
use Rattle.mb_msg.specs.declared.system.SysMsg.{SysMsg}
use Rattle.mb_syslist.specs.MessageList.{MessageList, numbered}
use Rattle.mb_journal.specs.Entry.{Entry}
use Rattle.mb_ghost.specs.Layout.{Spot}
use Rattle.mb_ghost.specs.Locked.{Locked}
use Rattle.mb_ghost.specs.Owed.{Owed}
use Rattle.mb_ghost.specs.Seen.{EachView, Each}
use Rattle.mb_gate.specs.HomeFacts.{HomeFacts}
use Rattle.mb_gate.specs.View.{View, Observation, Read, Saw, Counted, Looked, Sent, Unsent, Took, Pushed, Drained, Ended, Held, Lent, SentSystem, obligation_to}
use Rattle.mb_ghost.specs.Summed.{total}
use Rattle.mb_ghost.specs.Shares.{AreShares}
use Rattle.mb_gate.specs.Waiting.{on_by, off_by, IsBalance}
use Rattle.mb_gate.specs.PutIn.{put_by, IsAllPut}
use Rattle.mb_gate.specs.Releases.{taken_by, back_by, ReleasesAddUp}
use Rattle.mb_gate.specs.ClaimCounts.{claims_got, claims_returned, claims_out}
use Rattle.mb_gate.specs.NamedActors.{NamesBelow}
use Rattle.mb_gate.specs.declared.slot.Slot.{Slot}
use Rattle.mb_gate.specs.declared.slot.Slot.TheVariants.{Home, List as Listing}

-- An actor's words: its status; whether its cell was given back for good, once it is closed; the gate of its list; and how many envelopes are counted
-- as waiting.
pub data Word : Type 0 where
  Status : Word
  Flag : Word
  Gate : Word
  Waiting : Word

-- Where each word lies among the words of its actor.
abbrev pub word_offset : Word → ℕ
word_offset Status = 16
word_offset Flag = 7
word_offset Gate = 17
word_offset Waiting = 0

-- An actor's slots: one for its cell, and one for its list.
pub data SlotName : Type 0 where
  CellSlot : SlotName
  ListSlot : SlotName

-- Where each slot lies among the slots of its actor.
abbrev pub slot_offset : SlotName → ℕ
slot_offset CellSlot = 0
slot_offset ListSlot = 1

-- What is kept of an actor besides its words and slots: who has its claim; its journal, and the actors of which its home says that they are closed,
-- as they are in its slot, or were when its home was taken; the messages of which its home says that its list gave them, or said so when it was taken,
-- and those drained since; who has its list; what is listed; whether the last drain gave something; and all messages that were ever listed, in order.
pub record Ghost : Type 0 where
  pub holder : Option (ℕ × Held)
  pub journal : List Entry
  pub closed_to : List ℕ
  pub drained : List (ℕ × SysMsg)
  pub lent_to : Option (ℕ × Lent)
  pub listed : MessageList
  pub gave : Bool
  pub pushed : List SysMsg

-- The list is not empty.
abbrev pub is_some_item : {A : Type 0} → List A → Bool
is_some_item [] = false
is_some_item (x ∷ xs) = true

-- There is system work: something is listed, or the last drain gave something.
abbrev pub has_work : Ghost → Bool
has_work g = is_some_item g.listed.messages || g.gave

-- The word of a list's gate: 1 while the list is out, 2 where something is listed, 4 where the last drain gave something, 8 where the list is ended,
-- added up.
abbrev pub gate_word : Bool → MessageList → Bool → ℕ
gate_word is_out listed gave =
    (if is_out then 1 else 0) + (if is_some_item listed.messages then 2 else 0) + (if gave then 4 else 0) + (if listed.closed then 8 else 0)

-- This claim, if it is of this actor.
abbrev pub held_of : ℕ → Option Held → Option Held
held_of actor None = None
held_of actor (Some c) = if c.actor == actor then Some c else None

-- This list, if it is of this actor.
abbrev pub lent_of : ℕ → Option Lent → Option Lent
lent_of actor None = None
lent_of actor (Some l) = if l.actor == actor then Some l else None

-- The claim of this actor that the seat has.
abbrev pub claim_for : ℕ → View → Option Held
claim_for actor v = held_of actor v.claim

-- The list of this actor that the seat has taken out.
abbrev pub list_for : ℕ → View → Option Lent
list_for actor v = lent_of actor v.list

-- What a seat without a share of the whole has of the actor: it got no claim, gave none and no cell back, and counted nothing as sent; and unless it
-- has the claim, it has not the list, counted nothing off, and put nothing into the list.
pub record IsBare (actor : ℕ) (v : View) : Type 0 where
  pub got : claims_got actor v ≡ 0
  pub back : claims_returned actor v ≡ 0
  pub releases : (measure : List Entry → ℕ) → (taken_by actor measure v ≡ 0) × (back_by actor measure v ≡ 0)
  pub on : on_by actor v ≡ 0
  pub rest : claim_for actor v ≡ None → (list_for actor v ≡ None) × (off_by actor v ≡ 0)
      × ((measure : ℕ × SysMsg → ℕ) → put_by actor measure v ≡ 0)

-- Each seat that has no share of the whole has nothing of this actor but what its claim gives it.
abbrev pub EachBare : ℕ → List View → Type 0
EachBare actor vs = EachView (λ (v : View). v.share ≡ [] → IsBare actor v) vs

-- All claims of the actor that were got were given back, but one where the actor is held.
abbrev pub ClaimsBalance : ℕ → Option (ℕ × Held) → List View → Type 0
ClaimsBalance actor holder vs = total (claims_got actor) vs ≡ total (claims_returned actor) vs + claims_out holder

-- An actor whose status word is the closed one was held: some seat got a claim of it.
abbrev pub WasHeld : ℕ → ℕ → List View → Type 0
WasHeld actor status vs = status ≡ 1 → 0 < total (claims_got actor) vs

-- A journal extends another: newest first, it ends with the other.
pub record Extends (journal before : List Entry) : Type 0 where
  pub newer : List Entry
  pub joined : journal ≡ newer ++ before

-- The actor may handle envelopes, nobody holds it, and some envelopes are counted as waiting.
abbrev pub MessageDue : {H : Type 0} → Spot Word SlotName (Slot H) Ghost → Type 0
MessageDue x = (x.row Status ≡ 0) × (0 < x.row Waiting)

-- The actor is neither closed nor scheduled, and there is system work.
abbrev pub SystemDue : {H : Type 0} → Spot Word SlotName (Slot H) Ghost → Type 0
SystemDue x = (x.row Status % 4 ≡ 0) × IsTrue (has_work x.ghost)

-- This view has the obligation to look at the actor's envelopes, or is about to queue one.
abbrev pub HasMessageObligation : ℕ → View → Type 0
HasMessageObligation actor v = IsTrue ((obligation_to actor v).message || (obligation_to actor v).sending)

-- This view has the obligation to look at the actor's system messages.
abbrev pub HasSystemObligation : ℕ → View → Type 0
HasSystemObligation actor v = IsTrue (obligation_to actor v).system

-- The item stands in the list.
pub record IsAmong {A : Type 0} (item : A) (items : List A) : Type 0 where
  pub before : List A
  pub after : List A
  pub joined : items ≡ before ++ item ∷ after

-- These items stand in the list, next to one another.
pub record IsPart {A : Type 0} (part items : List A) : Type 0 where
  pub before : List A
  pub after : List A
  pub joined : items ≡ before ++ (part ++ after)

-- All messages that were ever listed, each with its number.
abbrev pub all_numbered : Ghost → List (ℕ × SysMsg)
all_numbered g = numbered 0 g.pushed

-- This message was put into the list under this number.
abbrev pub WasPushed : Ghost → ℕ × SysMsg → Type 0
WasPushed g m = IsAmong m (all_numbered g)

-- This observation holds. What was seen closed is closed; the journal extends each that was seen; what was put into the list, and what the list gave,
-- has the numbers of the list; and a list that was ended is ended.
abbrev pub ObservationHolds : {H : Type 0} → ℕ → Spot Word SlotName (Slot H) Ghost → Observation → Type 0
ObservationHolds actor x (Read a word) = a ≡ actor → word ≡ 1 → x.row Status ≡ 1
ObservationHolds actor x (Saw a journal) = a ≡ actor → Extends x.ghost.journal journal
ObservationHolds actor x (Pushed a n m) = a ≡ actor → IsAmong (n, m) (all_numbered x.ghost)
ObservationHolds actor x (Ended a given) = a ≡ actor → IsTrue x.ghost.listed.closed × IsPart given (all_numbered x.ghost)
ObservationHolds actor x (Counted a n) = Unit {0}
ObservationHolds actor x (Looked a has_work) = Unit {0}
ObservationHolds actor x (Sent a n) = Unit {0}
ObservationHolds actor x (Unsent a n) = Unit {0}
ObservationHolds actor x (Took a n) = Unit {0}
ObservationHolds actor x (Drained a given) = a ≡ actor → IsPart given (all_numbered x.ghost)

-- A message that was sent was listed, or the list is ended.
abbrev pub SentSystemHolds : {H : Type 0} → ℕ → Spot Word SlotName (Slot H) Ghost → SentSystem → Type 0
SentSystemHolds actor x s = s.to ≡ actor → (s.was_ended ≡ true → IsTrue x.ghost.listed.closed) × (s.was_ended ≡ false → IsAmong s.message x.ghost.pushed)

-- All that the view has seen of the actor, and sent to it, is so.
pub record Knows {H : Type 0} (actor : ℕ) (x : Spot Word SlotName (Slot H) Ghost) (v : View) : Type 0 where
  pub seen : Each (ObservationHolds actor x) v.log
  pub sent_system : Each (SentSystemHolds actor x) v.sent_system

-- All that was ever listed is what was given and what is listed still; how many were given is known. A list takes fewer than 2^64 messages.
pub record IsListing (pushed : List SysMsg) (listed : MessageList) : Type 0 where
  pub given : List SysMsg
  pub joined : pushed ≡ given ++ listed.messages
  pub counted : listed.given ≡ length given % 2 ^ 64
  pub few : length pushed < 2 ^ 64

-- The view has seen the actor closed.
abbrev pub HasSeenClosed : ℕ → View → Type 0
HasSeenClosed actor v = IsAmong (Read actor 1) v.log

module _ {H : Type 0} (is_of : ℕ → H → Type 0) (facts : H → HomeFacts) where
  -- The cell is at home: it is the actor's own, its word is that of its journal, it knows how many its list gave, and only an open actor
  -- of which the last drain gave something may have something left beside its cell that is to be applied. For a closed actor the flag
  -- says so.
  pub record IsHome (actor : ℕ) (x : Spot Word SlotName (Slot H) Ghost) : Type 0 where
    pub home : H
    pub present : x.slot CellSlot ≡ some (some (Home home))
    pub of_actor : is_of actor home
    pub fold : (facts home).journal ≡ x.ghost.journal
    pub count : (facts home).given ≡ x.ghost.listed.given
    pub known_closed : (facts home).closed_to ≡ x.ghost.closed_to
    pub drained : (facts home).drained ≡ x.ghost.drained
    pub word : x.row Status ≡ word_of (facts home).mailbox
    pub idle : (x.row Status % 4 ≡ 0) ⊎ (x.row Status ≡ 1)
    pub flag : x.row Flag ≡ (if x.row Status == 1 then 1 else 0)
    pub rest : (x.row Status ≡ 1) ⊎ (x.ghost.gave ≡ false) → (facts home).no_backlog

  -- A claim has the cell: it is not in its slot, and the claim knows the status word, which says that the actor is scheduled or closed.
  pub record IsHeld (actor : ℕ) (x : Spot Word SlotName (Slot H) Ghost) (claim : Held) : Type 0 where
    pub of_actor : claim.actor ≡ actor
    pub taken : claim.journal ≡ x.ghost.journal
    pub known_closed : claim.closed_to ≡ x.ghost.closed_to
    pub drained : claim.drained ≡ x.ghost.drained
    pub count : claim.given ≡ x.ghost.listed.given
    pub gave : claim.gave ≡ x.ghost.gave
    pub word : x.row Status ≡ claim.word
    pub busy : (x.row Status % 4 ≡ 2) ⊎ (x.row Status ≡ 1)
    pub flag : x.row Flag ≡ 0
    pub out : x.slot CellSlot ≡ some none

  -- The cell is where the holder of the actor says: in its slot if there is none, else with the holder's claim.
  abbrev pub CellPlace : ℕ → Spot Word SlotName (Slot H) Ghost → Option (ℕ × Held) → Type 0
  CellPlace actor x None = IsHome actor x
  CellPlace actor x (Some h) = IsHeld actor x h.1

  -- The list is in its slot.
  pub record IsListInSlot (x : Spot Word SlotName (Slot H) Ghost) : Type 0 where
    pub present : x.slot ListSlot ≡ some (some (Listing x.ghost.listed))
    pub word : x.row Gate ≡ gate_word false x.ghost.listed x.ghost.gave

  -- A seat has the list, and knows what was listed.
  pub record IsListOut (x : Spot Word SlotName (Slot H) Ghost) (lent : Lent) : Type 0 where
    pub taken : lent.listed ≡ x.ghost.listed
    pub gave : lent.gave ≡ x.ghost.gave
    pub word : x.row Gate ≡ gate_word true x.ghost.listed x.ghost.gave

  -- The list is where its lent_to says: in its slot if there is none, else with the lent_to.
  abbrev pub ListPlace : Spot Word SlotName (Slot H) Ghost → Option (ℕ × Lent) → Type 0
  ListPlace x None = IsListInSlot x
  ListPlace x (Some k) = IsListOut x k.1

  -- All that holds of one actor among so many: who has its cell, who has its list, how many are counted as waiting, what is owed and what
  -- was seen; who is closed was held; what is listed names actors alone; what was put into the list is what all seats log so; the
  -- journal is what came of an empty one in the releases of all seats; each message that its home says its list gave was put into the list,
  -- under this number; and of each actor that its home says is closed some seat has seen it.
  pub record Fact (actors actor : ℕ) (x : Spot Word SlotName (Slot H) Ghost) (vs : List View) : Type 0 where
    pub valid : IsTrue (is_valid (x.row Status))
    pub claims : Locked (claim_for actor) x.ghost.holder vs
    pub cell : CellPlace actor x x.ghost.holder
    pub lists : Locked (list_for actor) x.ghost.lent_to vs
    pub list_place : ListPlace x x.ghost.lent_to
    pub ended : IsTrue x.ghost.listed.closed → x.row Status ≡ 1
    pub listing : IsListing x.ghost.pushed x.ghost.listed
    pub named : All (NamesBelow actors) x.ghost.listed.messages
    pub put : IsAllPut actor x.ghost.pushed vs
    pub releases : ReleasesAddUp actor x.ghost.journal vs
    pub was_pushed : Each (WasPushed x.ghost) x.ghost.drained
    pub balance : IsBalance actor (x.row Waiting) vs
    pub claims_balance : ClaimsBalance actor x.ghost.holder vs
    pub held : WasHeld actor (x.row Status) vs
    pub shares : AreShares (λ (v : View). v.share) vs
    pub bare : EachBare actor vs
    pub was_seen_closed : (other : ℕ) → Owed (IsAmong other x.ghost.closed_to) (HasSeenClosed other) vs
    pub message : Owed (MessageDue x) (HasMessageObligation actor) vs
    pub system : Owed (SystemDue x) (HasSystemObligation actor) vs
    pub seen : EachView (Knows actor x) vs
