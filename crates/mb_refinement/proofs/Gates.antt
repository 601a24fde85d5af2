-- What the words of an actor show by their bits.
use Rattle.std.proofs.Common.{◌≡◌, ℕ, ◌+◌, ◌/◌, ◌%◌, ◌==◌, ◌⊎◌, inl, inr, ⊎_elim, Bool, true, false, if◌then◌else◌, IsTrue, List, [], ◌∷◌, ◌++◌, sym, refl, ap, ◌∙◌, Option, Some, None, eq-eqb, arith}
use Rattle.std.proofs.lemmas.Bool.Decides.{nat_tests}
use Rattle.std.proofs.lemmas.Bool.{eqb-true}
use Rattle.mb_status.specs.Mailbox.{mailbox_of, is_valid, suspend}
use Rattle.mb_msg.specs.declared.system.SysMsg.{SysMsg}
use Rattle.mb_core.specs.declared.event.Step as event
use Rattle.mb_core.specs.Actor.{has_work}
use Rattle.mb_core.specs.declared.event.Step.TheVariants.{Read, Schedule, Idle, Suspend, Resume, Close, Sent, Unsent}
use Rattle.mb_core.specs.declared.event.Step.TheVariants.{Taken, Count, Push, Take, SysAdd, SysRead, SysDrain, SysEnd}
use Rattle.mb_ghost.specs.Layout.{Spot}
use Rattle.mb_gate.specs.HomeFacts.{HomeFacts}
use Rattle.mb_gate.specs.declared.slot.Slot.{Slot}
use Rattle.mb_gate.specs.View.{Lent}
use Rattle.mb_gate.specs.Rule.{Word, Gate, SlotName, Ghost, is_some_item, gate_word, ListPlace}
use Rattle.mb_gate.specs.ListWord.{is_ended}
use Rattle.mb_gate.specs.Shown.{work_of}
use Rattle.mb_refinement.specs.TableMoves.{IsHolderStep, HasSystemWork}

-- ---- the word of a list's gate

abbrev bits_of : Bool → Bool → Bool → Bool → ℕ
bits_of out listed gave ended = (if out then 1 else 0) + (if listed then 2 else 0) + (if gave then 4 else 0) + (if ended then 8 else 0)

-- its second, third and fourth bit
bits : (out listed gave ended : Bool) → (let word = bits_of out listed gave ended in ((word / 2 % 2 == 1) ≡ listed) × ((word / 4 % 2 == 1) ≡ gave) × ((word / 8 % 2 ==
    1) ≡ ended))
bits true true true true = (refl, refl, refl)
bits true true true false = (refl, refl, refl)
bits true true false true = (refl, refl, refl)
bits true true false false = (refl, refl, refl)
bits true false true true = (refl, refl, refl)
bits true false true false = (refl, refl, refl)
bits true false false true = (refl, refl, refl)
bits true false false false = (refl, refl, refl)
bits false true true true = (refl, refl, refl)
bits false true true false = (refl, refl, refl)
bits false true false true = (refl, refl, refl)
bits false true false false = (refl, refl, refl)
bits false false true true = (refl, refl, refl)
bits false false true false = (refl, refl, refl)
bits false false false true = (refl, refl, refl)
bits false false false false = (refl, refl, refl)

some_work : (ended : Bool) (rest ms : List SysMsg) → ended ≡ false → (is_some_item ms ≡ true) ⊎ IsTrue (is_some_item rest) → IsTrue (has_work (if ended then None
    else Some (rest ++ ms)))
some_work true rest ms e some = absurd (cc)
some_work false [] [] e some = ⊎_elim (λ a. absurd (cc)) (λ b. absurd (cc)) some
some_work false [] (m ∷ ms) e some = refl
some_work false (x ∷ xs) ms e some = refl

module _ {H : Type 0} (is_of : ℕ → H → Type 0) (facts : H → HomeFacts) where
  abbrev Place : Type 0
  Place = Spot Word SlotName (Slot H) Ghost

  -- the gate's word, wherever the list is
  gate_is : (x : Place) (l : Option (ℕ × Lent)) → ListPlace is_of facts x l → (out : Bool) × (x.row Gate ≡ gate_word out x.ghost.listed x.ghost.gave)
  gate_is x None k = (false, k.word)
  gate_is x (Some h) k = (true, k.word)

  -- it shows whether the last drain gave something
  pub gave_shown : (x : Place) → ListPlace is_of facts x x.ghost.lent_to → x.ghost.gave ≡ (x.row Gate / 4 % 2 == 1)
  gave_shown x k = let g = gate_is x x.ghost.lent_to k in sym (ap (λ w. w / 4 % 2 == 1) g.1 ∙ (bits g.0 (is_some_item x.ghost.listed.messages) x.ghost.gave
      x.ghost.listed.closed).1)

  -- whether the list is ended
  pub ended_shown : (x : Place) → ListPlace is_of facts x x.ghost.lent_to → x.ghost.listed.closed ≡ is_ended (x.row Gate)
  ended_shown x k = let g = gate_is x x.ghost.lent_to k in sym (ap (λ w. w / 8 % 2 == 1) g.1 ∙ (bits g.0 (is_some_item x.ghost.listed.messages) x.ghost.gave
      x.ghost.listed.closed).2)

  -- whether something is listed
  listed_shown : (x : Place) → ListPlace is_of facts x x.ghost.lent_to → is_some_item x.ghost.listed.messages ≡ (x.row Gate / 2 % 2 == 1)
  listed_shown x k = let g = gate_is x x.ghost.lent_to k in sym (ap (λ w. w / 2 % 2 == 1) g.1 ∙ (bits g.0 (is_some_item x.ghost.listed.messages) x.ghost.gave
      x.ghost.listed.closed).0)

  -- and so whether there is system work
  pub work_shown : (x : Place) (rest : List SysMsg) → ListPlace is_of facts x x.ghost.lent_to → HasSystemWork (x.row Gate) rest → IsTrue (has_work (work_of x.ghost
      rest))
  work_shown x rest k has = some_work x.ghost.listed.closed rest x.ghost.listed.messages (ended_shown x k ∙ has.0)
      (⊎_elim (λ bit. inl (listed_shown x k ∙ eq-eqb (x.row Gate / 2 % 2) 1 bit)) (λ some. inr some) has.1)

-- ---- the status word

-- a word without the scheduled bit is one of a possible mailbox, where it is one with it
pub unscheduled_valid : (k : ℕ) → k % 4 ≡ 0 → IsTrue (is_valid (k + 2)) → IsTrue (is_valid k)
unscheduled_valid k free valid = grind (arith, nat_tests)

one_bit : (k : ℕ) → (k == 1) ≡ true → k ≡ 1
one_bit k e = eqb-true k 1 e

-- a word that is as closed and as scheduled as one of an actor that is held
same_busy : (word new : ℕ) → (word % 4 ≡ 2) ⊎ (word ≡ 1) → IsTrue (is_valid new) → (new == 1) ≡ (word == 1) → (new / 2 % 2 == 1) ≡ (word / 2 % 2 == 1)
    → ((new % 4 ≡ 2) ⊎ (new ≡ 1)) × (word ≡ 1 → new ≡ 1)
same_busy word new busy valid closed scheduled = ⊎_elim
    (λ two. (
      inl (scheduled_two new valid (eqb-true (new / 2 % 2) 1 (scheduled ∙ eq-eqb (word / 2 % 2) 1 (omega arith)))),
      (λ one. absurd (omega arith)),
    ))
    (λ one. let shut : new ≡ 1 = one_bit new (closed ∙ eq-eqb word 1 one) in (inr shut, (λ _. shut))) busy
  where
    scheduled_two : (k : ℕ) → IsTrue (is_valid k) → k / 2 % 2 ≡ 1 → k % 4 ≡ 2
    scheduled_two k v e = grind (arith, nat_tests)

suspend_bits : (word new : ℕ) (b : Bool) → (word == 1) ≡ b → mailbox_of new ≡ suspend (mailbox_of word) → ((new == 1) ≡ (word == 1)) × ((new / 2 % 2 == 1) ≡ (word / 2
    % 2 == 1))
suspend_bits word new true shut is = let same = is ∙ ap (λ b. if b then mailbox_of word else record (mailbox_of word) { count = word / 4 + 1 }) shut in (
  ap (λ m. m.closed) same,
  ap (λ m. m.scheduled) same,
)
suspend_bits word new false shut is = let same = is ∙ ap (λ b. if b then mailbox_of word else record (mailbox_of word) { count = word / 4 + 1 }) shut in (
  ap (λ m. m.closed) same,
  ap (λ m. m.scheduled) same,
)

-- what the holder writes says that the actor is held, and closed if it was
pub holder_busy : (word new : ℕ) (step : event.Step) → (word % 4 ≡ 2) ⊎ (word ≡ 1) → IsTrue (is_valid new) → IsHolderStep word new step → ((new % 4 ≡ 2) ⊎ (new ≡
    1)) × (word ≡ 1 → new ≡ 1)
holder_busy word new Suspend busy valid is = let same = suspend_bits word new (word == 1) refl is.1 in same_busy word new busy valid same.0 same.1
holder_busy word new Resume busy valid is = same_busy word new busy valid (ap (λ m. m.closed) is) (ap (λ m. m.scheduled) is)
holder_busy word new Close busy valid is = let shut : new ≡ 1 = one_bit new (ap (λ m. m.closed) is) in (inr shut, (λ _. shut))
holder_busy word new Read busy valid is = absurd is
holder_busy word new Schedule busy valid is = absurd is
holder_busy word new (Idle rest) busy valid is = absurd is
holder_busy word new Sent busy valid is = absurd is
holder_busy word new Unsent busy valid is = absurd is
holder_busy word new Taken busy valid is = absurd is
holder_busy word new Count busy valid is = absurd is
holder_busy word new (Push envelope) busy valid is = absurd is
holder_busy word new (Take place) busy valid is = absurd is
holder_busy word new (SysAdd message) busy valid is = absurd is
holder_busy word new SysRead busy valid is = absurd is
holder_busy word new SysDrain busy valid is = absurd is
holder_busy word new SysEnd busy valid is = absurd is
