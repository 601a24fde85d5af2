-- Which event of the machine each step on an actor's status word is (`akka.dispatch.Mailbox`; parties are this project's own profile).
use Rattle.std.specs.Prelude.{◌≡◌, ◌≢◌, ◌⊎◌, ℕ, ◌+◌, ◌/◌, ◌%◌, ◌<◌, ◌==◌, false, List, [], ◌∷◌, ◌++◌, Some, None, slice_index}
use mathlib.Core.Option.{some}
use prog.Atomic.{either}
use Rattle.std.specs.declared.snapshot.Snapshot.{Snapshot}
use Rattle.atomic_table.specs.Table.{State, Me, Step, keeps, takes, gives}
use Rattle.mb_msg.specs.declared.system.SysMsg.{SysMsg}
use Rattle.mb_core.specs.declared.event.Step.TheVariants.{Read, Schedule, Idle, Suspend, Resume, Close}
use Rattle.mb_ghost.specs.Layout.{word_at, slot_at}
use Rattle.mb_gate.specs.HomeFacts.{HomeFacts}
use Rattle.mb_gate.specs.declared.slot.Slot.{Slot}
use Rattle.mb_gate.specs.declared.slot.Slot.TheVariants.{Home, First}
use Rattle.mb_gate.specs.View.{View, Held}
use Rattle.mb_gate.specs.TableSteps.{Reads, ReadsHeld, Writes, Schedules, Idles}
use Rattle.mb_gate.specs.Together.{ReadsOwnClaim, ReadsFlag}
use Rattle.mb_refinement.specs.Refines.{IsStep, Rule, IsEvent, IsNoEvent}

-- A load of a status word is the machine's reading.
abbrev pub LoadIsRead : {H : Type 0} → (ℕ → H → Type 0) → (H → HomeFacts) → Type 0
LoadIsRead {H} is_of facts =
    (n : ℕ) (s s' : State (Slot H) View) (r : Rule is_of facts n s) (r' : Rule is_of facts n s') (actor id : ℕ) (me : Me (Slot H) View) (st : Step (Slot
    H)) (rest : List SysMsg) → actor < n → st.word ≡ word_at actor 16
    → IsStep (word_at actor 16) id me (λ k. k) keeps (Reads st me) s s'
    → IsEvent is_of facts n s r s' r' actor id Read rest rest

-- The exchange of a status word for one that is two more, which finds the word that it looks for, takes the cell, and schedules the actor.
abbrev pub WonExchangeIsSchedule : {H : Type 0} → (H → ℕ → H → Type 0) → H → (H → HomeFacts) → Type 0
WonExchangeIsSchedule {H} is_of first facts =
    (n : ℕ) (s s' : State (Slot H) View) (r : Rule (is_of first) facts n s) (r' : Rule (is_of first) facts n s') (actor id : ℕ) (me : Me (Slot H) View)
    (st : Step (Slot H)) (note : Snapshot (Snapshot H)) (home : H) (rest : List SysMsg)
    → actor < n → st.word ≡ word_at actor 16 → st.said ≡ some (First note) → st.second ≡ st.first + 2 → me.0.claim ≡ None
    → slice_index s.words (word_at actor 16) ≡ st.first
    → IsStep (word_at actor 16) id me (λ k. either (k == st.first) st.second k) (takes (slot_at actor 0) (Home home)) (Schedules is_of facts st me) s s'
    → IsEvent (is_of first) facts n s r s' r' actor id Schedule rest rest

-- the claim, if any, knows whether the last drain gave something, which this word of the list's gate shows
abbrev pub KnowsLastDrain : ℕ → View → Type 0
KnowsLastDrain gate v = (c : Held) → v.claim ≡ Some c → c.gave ≡ (gate / 4 % 2 == 1)

-- Its claim knows then whether the last drain gave something.
abbrev pub WonExchangeKnowsDrain : {H : Type 0} → (H → ℕ → H → Type 0) → H → (H → HomeFacts) → Type 0
WonExchangeKnowsDrain {H} is_of first facts =
    (n : ℕ) (s s' : State (Slot H) View) (r : Rule (is_of first) facts n s) (r' : Rule (is_of first) facts n s') (actor id : ℕ) (me : Me (Slot H) View)
    (st : Step (Slot H)) (note : Snapshot (Snapshot H)) (home : H)
    → actor < n → st.word ≡ word_at actor 16 → st.said ≡ some (First note) → slice_index s.words (word_at actor 16) ≡ st.first
    → (made : IsStep (word_at actor 16) id me (λ k. either (k == st.first) st.second k) (takes (slot_at actor 0) (Home home))
    (Schedules is_of facts st me) s s')
    → KnowsLastDrain (slice_index s.words (word_at actor 17)) made.view

-- The same exchange, which finds another word, is a reading.
abbrev pub LostExchangeIsRead : {H : Type 0} → (H → ℕ → H → Type 0) → H → (H → HomeFacts) → Type 0
LostExchangeIsRead {H} is_of first facts =
    (n : ℕ) (s s' : State (Slot H) View) (r : Rule (is_of first) facts n s) (r' : Rule (is_of first) facts n s') (actor id : ℕ) (me : Me (Slot H) View)
    (st : Step (Slot H)) (note : Snapshot (Snapshot H)) (rest : List SysMsg)
    → actor < n → st.word ≡ word_at actor 16 → st.said ≡ some (First note) → slice_index s.words (word_at actor 16) ≢ st.first
    → IsStep (word_at actor 16) id me (λ k. either (k == st.first) st.second k) keeps (Schedules is_of facts st me) s s'
    → IsEvent (is_of first) facts n s r s' r' actor id Read rest rest

-- A load of its actor's status word by a seat that has the claim is no event.
abbrev pub LoadByTheHolderIsNone : {H : Type 0} → (ℕ → H → Type 0) → (H → HomeFacts) → Type 0
LoadByTheHolderIsNone {H} is_of facts =
    (n : ℕ) (s s' : State (Slot H) View) (r : Rule is_of facts n s) (r' : Rule is_of facts n s') (actor id : ℕ) (me : Me (Slot H) View) (st : Step (Slot
    H)) (c : Held) → actor < n → st.word ≡ word_at actor 16 → me.0.claim ≡ Some c → c.actor ≡ actor
    → IsStep (word_at actor 16) id me (λ k. k) keeps (ReadsHeld st me) s s'
    → IsNoEvent is_of facts n s r s' r'

-- A load of a status word by a seat that asks whether a claim is out is no event.
abbrev pub LookForClaimIsNone : {H : Type 0} → (ℕ → H → Type 0) → (H → HomeFacts) → Type 0
LookForClaimIsNone {H} is_of facts =
    (n : ℕ) (s s' : State (Slot H) View) (r : Rule is_of facts n s) (r' : Rule is_of facts n s') (actor id : ℕ) (me : Me (Slot H) View) (st : Step (Slot
    H)) → actor < n → st.word ≡ word_at actor 16
    → IsStep (word_at actor 16) id me (λ k. k) keeps (ReadsOwnClaim st me) s s'
    → IsNoEvent is_of facts n s r s' r'

-- Nor is a load of the flag of a closed actor.
abbrev pub LoadOfFlagIsNone : {H : Type 0} → (ℕ → H → Type 0) → (H → HomeFacts) → Type 0
LoadOfFlagIsNone {H} is_of facts =
    (n : ℕ) (s s' : State (Slot H) View) (r : Rule is_of facts n s) (r' : Rule is_of facts n s') (actor id : ℕ) (me : Me (Slot H) View) (st : Step (Slot
    H)) → actor < n → st.word ≡ word_at actor 7
    → IsStep (word_at actor 7) id me (λ k. k) keeps (ReadsFlag st me) s s'
    → IsNoEvent is_of facts n s r s' r'

-- A store of a status word by a seat that has the claim suspends the mailbox once more, undoes one suspension, or closes it.
abbrev pub StoreIsByTheHolder : {H : Type 0} → (ℕ → H → Type 0) → (H → HomeFacts) → Type 0
StoreIsByTheHolder {H} is_of facts =
    (n : ℕ) (s s' : State (Slot H) View) (r : Rule is_of facts n s) (r' : Rule is_of facts n s') (actor id : ℕ) (me : Me (Slot H) View) (st : Step (Slot
    H)) (c : Held) (rest : List SysMsg)
    → actor < n → st.word ≡ word_at actor 16 → me.0.claim ≡ Some c → c.actor ≡ actor
    → IsStep (word_at actor 16) id me (λ k. st.first) keeps (λ k. Writes st me st.first) s s'
    → IsEvent is_of facts n s r s' r' actor id Suspend rest rest
    ⊎ (IsEvent is_of facts n s r s' r' actor id Resume rest rest ⊎ IsEvent is_of facts n s r s' r' actor id Close rest rest)

-- The store that takes the scheduled bit off the word and puts the cell back is the machine's idle, with what is left of what was drained. It is
-- left only if the last drain gave something.
abbrev pub StoreIsIdle : {H : Type 0} → (ℕ → H → Type 0) → (H → HomeFacts) → Type 0
StoreIsIdle {H} is_of facts =
    (n : ℕ) (s s' : State (Slot H) View) (r : Rule is_of facts n s) (r' : Rule is_of facts n s') (actor id : ℕ) (me : Me (Slot H) View) (st : Step (Slot
    H)) (c : Held) (home : H) (rest left : List SysMsg)
    → actor < n → st.word ≡ word_at actor 16 → me.0.claim ≡ Some c → c.actor ≡ actor → me.1 ≡ (slot_at actor 0, Home home) ∷ []
    → (c.gave ≡ false → left ≡ [])
    → IsStep (word_at actor 16) id me (λ k. st.first) gives (λ k. Idles facts st me st.first) s s'
    → IsEvent is_of facts n s r s' r' actor id (Idle left) rest (left ++ rest)

-- The store of a closed actor's flag that puts its cell back is the machine's idle too.
abbrev pub FlagIsIdle : {H : Type 0} → (ℕ → H → Type 0) → (H → HomeFacts) → Type 0
FlagIsIdle {H} is_of facts =
    (n : ℕ) (s s' : State (Slot H) View) (r : Rule is_of facts n s) (r' : Rule is_of facts n s') (actor id : ℕ) (me : Me (Slot H) View) (st : Step (Slot
    H)) (c : Held) (home : H) (rest left : List SysMsg)
    → actor < n → st.word ≡ word_at actor 7 → me.0.claim ≡ Some c → c.actor ≡ actor → me.1 ≡ (slot_at actor 0, Home home) ∷ []
    → (c.gave ≡ false → left ≡ [])
    → IsStep (word_at actor 7) id me (λ k. st.first) gives (λ k. Idles facts st me st.first) s s'
    → IsEvent is_of facts n s r s' r' actor id (Idle left) rest (left ++ rest)
