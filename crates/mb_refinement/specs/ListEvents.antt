-- Which event of the machine each step on the gate of an actor's list is (`akka.dispatch.SystemMessageQueue`; the gate is this project's own profile).
use Rattle.std.specs.Prelude.{◌≡◌, ◌≢◌, ◌⊎◌, ℕ, ◌%◌, ◌<◌, ◌==◌, true, false, IsTrue, List, [], ◌∷◌, Some, None, slice_index}
use mathlib.Core.Option.{some}
use prog.Atomic.{either}
use Rattle.atomic_table.specs.Table.{State, Me, Step, keeps, takes, gives, rest as tail_of}
use Rattle.mb_msg.specs.declared.system.SysMsg.{SysMsg}
use Rattle.mb_syslist.specs.MessageList.{MessageList, with_last}
use Rattle.mb_core.specs.declared.event.Step.TheVariants.{SysAdd, SysRead, SysDrain, SysEnd}
use Rattle.mb_core.specs.Actor.{has_work}
use Rattle.mb_ghost.specs.Layout.{word_at, slot_at}
use Rattle.mb_gate.specs.HomeFacts.{HomeFacts}
use Rattle.mb_gate.specs.declared.slot.Slot.{Slot}
use Rattle.mb_gate.specs.declared.slot.Slot.TheVariants.{List as Listing, Note}
use Rattle.mb_gate.specs.View.{View, Held, Lent}
use Rattle.mb_gate.specs.ListWord.{shows_work}
use Rattle.mb_gate.specs.TableSteps.{ReadsGate, LocksList, Enlists, Refuses, Drains, Ends, ChecksDrained}
use Rattle.mb_refinement.specs.Refines.{IsStep, IsMarked, Rule, shows, IsEvent, IsNoEvent}

-- A load of a gate's word. Where it finds no system work, or there is some, it is the machine's look at it. Where it finds system work, nothing
-- changes; so there is no event where the word shows the mark of the last drain alone.
abbrev pub LoadIsSysRead : {H : Type 0} → (ℕ → H → Type 0) → (H → HomeFacts) → Type 0
LoadIsSysRead {H} is_of facts =
    (n : ℕ) (s s' : State (Slot H) View) (r : Rule is_of facts n s) (r' : Rule is_of facts n s') (actor id : ℕ) (me : Me (Slot H) View) (st : Step (Slot
    H)) (rest : List SysMsg) → actor < n → st.word ≡ word_at actor 17 → IsMarked (r.ghosts actor) rest
    → IsStep (word_at actor 17) id me (λ k. k) keeps (ReadsGate st me) s s'
    → (let finds = shows_work (slice_index s.words (word_at actor 17)) in
    ((finds ≡ false) ⊎ IsTrue (has_work (shows is_of facts n s r actor rest).system) → IsEvent is_of facts n s r s' r' actor id SysRead rest rest)
    × (finds ≡ true → IsNoEvent is_of facts n s r s' r'))

-- An exchange that finds the word that it looks for, and takes the list out of its slot, by a seat that has no list.
abbrev pub TakeOfListIsNone : {H : Type 0} → (ℕ → H → Type 0) → (H → HomeFacts) → Type 0
TakeOfListIsNone {H} is_of facts =
    (n : ℕ) (s s' : State (Slot H) View) (r : Rule is_of facts n s) (r' : Rule is_of facts n s') (actor id : ℕ) (me : Me (Slot H) View) (st : Step (Slot
    H)) (list : MessageList) → actor < n → st.word ≡ word_at actor 17 → me.0.list ≡ None → slice_index s.words (word_at actor 17) ≡ st.first
    → IsStep (word_at actor 17) id me (λ k. either (k == st.first) st.second k) (takes (slot_at actor 1) (Listing list)) (LocksList st me) s s'
    → IsNoEvent is_of facts n s r s' r'

-- The same exchange where it finds another word.
abbrev pub MissOfListIsNone : {H : Type 0} → (ℕ → H → Type 0) → (H → HomeFacts) → Type 0
MissOfListIsNone {H} is_of facts =
    (n : ℕ) (s s' : State (Slot H) View) (r : Rule is_of facts n s) (r' : Rule is_of facts n s') (actor id : ℕ) (me : Me (Slot H) View) (st : Step (Slot
    H)) → actor < n → st.word ≡ word_at actor 17 → slice_index s.words (word_at actor 17) ≢ st.first
    → IsStep (word_at actor 17) id me (λ k. either (k == st.first) st.second k) keeps (LocksList st me) s s'
    → IsNoEvent is_of facts n s r s' r'

-- An exchange of a gate's word for itself, by which a message is said to have found its list ended.
abbrev pub RefusalIsNone : {H : Type 0} → (ℕ → H → Type 0) → (H → HomeFacts) → Type 0
RefusalIsNone {H} is_of facts =
    (n : ℕ) (s s' : State (Slot H) View) (r : Rule is_of facts n s) (r' : Rule is_of facts n s') (actor id : ℕ) (me : Me (Slot H) View) (st : Step (Slot
    H)) (message : SysMsg) → actor < n → st.word ≡ word_at actor 17 → st.said ≡ some (Note message) → st.second ≡ st.first
    → IsStep (word_at actor 17) id me (λ k. either (k == st.first) st.second k) keeps (Refuses st me) s s'
    → IsNoEvent is_of facts n s r s' r'

-- The store that puts back a list with one message more.
abbrev pub StoreIsSysAdd : {H : Type 0} → (ℕ → H → Type 0) → (H → HomeFacts) → Type 0
StoreIsSysAdd {H} is_of facts =
    (n : ℕ) (s s' : State (Slot H) View) (r : Rule is_of facts n s) (r' : Rule is_of facts n s') (actor id : ℕ) (me : Me (Slot H) View) (st : Step (Slot
    H)) (l : Lent) (message : SysMsg) (rest : List SysMsg)
    → actor < n → st.word ≡ word_at actor 17 → me.0.list ≡ Some l → l.actor ≡ actor
    → me.1 ≡ (slot_at actor 1, Listing (with_last l.listed message)) ∷ tail_of me.1
    → IsStep (word_at actor 17) id me (λ k. st.first) gives (λ k. Enlists st me st.first) s s'
    → IsEvent is_of facts n s r s' r' actor id (SysAdd message) rest rest

-- The store by which the holder puts back a list that it emptied. Nothing is left then of what was drained before.
abbrev pub StoreIsSysDrain : {H : Type 0} → (ℕ → H → Type 0) → (H → HomeFacts) → Type 0
StoreIsSysDrain {H} is_of facts =
    (n : ℕ) (s s' : State (Slot H) View) (r : Rule is_of facts n s) (r' : Rule is_of facts n s') (actor id : ℕ) (me : Me (Slot H) View) (st : Step (Slot
    H)) (l : Lent) (c : Held) (rest : List SysMsg)
    → actor < n → st.word ≡ word_at actor 17 → me.0.list ≡ Some l → l.actor ≡ actor → me.0.claim ≡ Some c → c.actor ≡ actor
    → IsStep (word_at actor 17) id me (λ k. st.first) gives (λ k. Drains st me st.first) s s'
    → IsEvent is_of facts n s r s' r' actor id SysDrain rest []

-- The store by which the holder puts back a list that it emptied and ended.
abbrev pub StoreIsSysEnd : {H : Type 0} → (ℕ → H → Type 0) → (H → HomeFacts) → Type 0
StoreIsSysEnd {H} is_of facts =
    (n : ℕ) (s s' : State (Slot H) View) (r : Rule is_of facts n s) (r' : Rule is_of facts n s') (actor id : ℕ) (me : Me (Slot H) View) (st : Step (Slot
    H)) (l : Lent) (c : Held) (rest : List SysMsg)
    → actor < n → st.word ≡ word_at actor 17 → me.0.list ≡ Some l → l.actor ≡ actor → me.0.claim ≡ Some c → c.actor ≡ actor
    → IsStep (word_at actor 17) id me (λ k. st.first) gives (λ k. Ends st me st.first) s s'
    → IsEvent is_of facts n s r s' r' actor id SysEnd rest []

-- The holder's load of its gate's word, which has no list out. Where the word shows neither system work nor that the list is out, it is a drain that
-- gives nothing; else there is no event.
abbrev pub CheckIsSysDrain : {H : Type 0} → (ℕ → H → Type 0) → (H → HomeFacts) → Type 0
CheckIsSysDrain {H} is_of facts =
    (n : ℕ) (s s' : State (Slot H) View) (r : Rule is_of facts n s) (r' : Rule is_of facts n s') (actor id : ℕ) (me : Me (Slot H) View) (st : Step (Slot
    H)) (c : Held) (rest : List SysMsg)
    → actor < n → st.word ≡ word_at actor 17 → me.0.claim ≡ Some c → c.actor ≡ actor → me.0.list ≡ None → IsMarked (r.ghosts actor) rest
    → IsStep (word_at actor 17) id me (λ k. k) keeps (ChecksDrained st me) s s'
    → (slice_index s.words (word_at actor 17) % 8 ≡ 0 → IsEvent is_of facts n s r s' r' actor id SysDrain rest rest)
    × (slice_index s.words (word_at actor 17) % 8 ≢ 0 → IsNoEvent is_of facts n s r s' r')
