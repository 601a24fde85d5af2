-- Which event of the machine each step on an actor's waiting count is (this project's own profile).
use Rattle.std.specs.Prelude.{◌≡◌, ℕ, ◌+◌, ◌-◌, ◌%◌, ◌^◌, ◌<◌, IsTrue, List, Some}
use Rattle.atomic_table.specs.Table.{State, Me, Step, keeps}
use Rattle.mb_msg.specs.declared.system.SysMsg.{SysMsg}
use Rattle.mb_core.specs.declared.event.Step.TheVariants.{Sent, Unsent, Taken, Count}
use Rattle.mb_ghost.specs.Layout.{word_at}
use Rattle.mb_gate.specs.HomeFacts.{HomeFacts}
use Rattle.mb_gate.specs.declared.slot.Slot.{Slot}
use Rattle.mb_gate.specs.View.{View, Held, obligation_to}
use Rattle.mb_gate.specs.TableSteps.{CountsSent, UncountsSent, CountsTaken, ReadsWaiting}
use Rattle.mb_refinement.specs.Refines.{IsStep, Rule, IsEvent}

-- The addition of one to a waiting count, for an envelope that is to be queued.
abbrev pub AdditionIsSent : {H : Type 0} → (ℕ → H → Type 0) → (H → HomeFacts) → Type 0
AdditionIsSent {H} is_of facts =
    (n : ℕ) (s s' : State (Slot H) View) (r : Rule is_of facts n s) (r' : Rule is_of facts n s') (actor id : ℕ) (me : Me (Slot H) View) (st : Step (Slot
    H)) (rest : List SysMsg) → actor < n → st.word ≡ word_at actor 0
    → IsStep (word_at actor 0) id me (λ k. (k + 1) % 2 ^ 64) keeps (CountsSent st me) s s'
    → IsEvent is_of facts n s r s' r' actor id Sent rest rest

-- The subtraction of one, for an envelope that was refused, by a seat that is sending.
abbrev pub SubtractionIsUnsent : {H : Type 0} → (ℕ → H → Type 0) → (H → HomeFacts) → Type 0
SubtractionIsUnsent {H} is_of facts =
    (n : ℕ) (s s' : State (Slot H) View) (r : Rule is_of facts n s) (r' : Rule is_of facts n s') (actor id : ℕ) (me : Me (Slot H) View) (st : Step (Slot
    H)) (rest : List SysMsg) → actor < n → st.word ≡ word_at actor 0 → IsTrue (obligation_to actor me.0).sending
    → IsStep (word_at actor 0) id me (λ k. (k + (2 ^ 64 - 1)) % 2 ^ 64) keeps (UncountsSent st me) s s'
    → IsEvent is_of facts n s r s' r' actor id Unsent rest rest

-- The subtraction of one, for an envelope that was taken, by a seat that has the claim.
abbrev pub SubtractionIsTaken : {H : Type 0} → (ℕ → H → Type 0) → (H → HomeFacts) → Type 0
SubtractionIsTaken {H} is_of facts =
    (n : ℕ) (s s' : State (Slot H) View) (r : Rule is_of facts n s) (r' : Rule is_of facts n s') (actor id : ℕ) (me : Me (Slot H) View) (st : Step (Slot
    H)) (c : Held) (rest : List SysMsg) → actor < n → st.word ≡ word_at actor 0 → me.0.claim ≡ Some c → c.actor ≡ actor
    → IsStep (word_at actor 0) id me (λ k. (k + (2 ^ 64 - 1)) % 2 ^ 64) keeps (CountsTaken st me) s s'
    → IsEvent is_of facts n s r s' r' actor id Taken rest rest

-- A load of a waiting count.
abbrev pub LoadIsCount : {H : Type 0} → (ℕ → H → Type 0) → (H → HomeFacts) → Type 0
LoadIsCount {H} is_of facts =
    (n : ℕ) (s s' : State (Slot H) View) (r : Rule is_of facts n s) (r' : Rule is_of facts n s') (actor id : ℕ) (me : Me (Slot H) View) (st : Step (Slot
    H)) (rest : List SysMsg) → actor < n → st.word ≡ word_at actor 0
    → IsStep (word_at actor 0) id me (λ k. k) keeps (ReadsWaiting st me) s s'
    → IsEvent is_of facts n s r s' r' actor id Count rest rest
