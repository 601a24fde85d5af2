-- Sums over what a run put into lists.
use Rattle.std.proofs.Common.{◌≡◌, ℕ, ◌+◌, ◌==◌, Bool, true, false, List, [], ◌∷◌, ◌++◌, refl, sym, ap, ◌∙◌, arith}
use Rattle.std.specs.Prelude.{if◌then◌else◌, reverse}
use Rattle.std.proofs.lemmas.List.{reverse-append}
use Rattle.mb_msg.specs.declared.system.SysMsg.{SysMsg}
use Rattle.mb_ghost.specs.Summed.{total}
use Rattle.mb_ghost.proofs.SummedLemmas.{total_append}
use Rattle.mb_gate.specs.PutIn.{put_by, put_in}
use Rattle.mb_gate.specs.View.{View, SentSystem}
use Rattle.mb_gate.specs.View.{Observation, Read, Saw, Counted, Looked, Sent, Unsent, Took, Pushed, Drained, Ended}
use Rattle.mb_mailbox.specs.RunSends.{listed_by, listed_measure, listed_of}

-- the measure of a message, if it is to this actor
abbrev pub measure_to : ℕ → (SysMsg → ℕ) → ℕ × SysMsg → ℕ
measure_to to measure m = if m.0 == to then measure m.1 else 0

none : (n : ℕ) → 0 + n ≡ n
none n = omega arith

reverse-sum : {A : Type 0} (f : A → ℕ) (xs : List A) → total f (reverse xs) ≡ total f xs
reverse-sum f [] = refl
reverse-sum f (x ∷ xs) =
    ap (total f) (reverse-append (x ∷ []) xs) ∙ total_append f (reverse xs) (x ∷ [])
    ∙ (let rest = reverse-sum f xs in let sum : total f (reverse xs) + total f (x ∷ []) ≡ f x + total f xs = omega arith in sum)

module _ (to : ℕ) (measure : SysMsg → ℕ) where
  pub put-sum : (log : List Observation) → total (put_in to (λ (m : ℕ × SysMsg). measure m.1)) log ≡ total (measure_to to measure) (listed_by log)
  put-sum [] = refl
  put-sum (Pushed a n m ∷ log) = ap (λ k. (if a == to then measure m else 0) + k) (put-sum log)
  put-sum (Read a n ∷ log) = none _ ∙ put-sum log
  put-sum (Saw a n ∷ log) = none _ ∙ put-sum log
  put-sum (Counted a n ∷ log) = none _ ∙ put-sum log
  put-sum (Looked a n ∷ log) = none _ ∙ put-sum log
  put-sum (Sent a n ∷ log) = none _ ∙ put-sum log
  put-sum (Unsent a n ∷ log) = none _ ∙ put-sum log
  put-sum (Took a n ∷ log) = none _ ∙ put-sum log
  put-sum (Drained a given ∷ log) = none _ ∙ put-sum log
  put-sum (Ended a given ∷ log) = none _ ∙ put-sum log

  first-sum : (b : Bool) (s : SentSystem) (rest : List (ℕ × SysMsg)) (sum : ℕ) → total (measure_to to measure) rest ≡ sum →
      total (measure_to to measure) ((if b then [] else (s.to, s.message) ∷ []) ++ rest)
      ≡ (if b then 0 else if s.to == to then measure s.message else 0) + sum
  first-sum true s rest sum is = is ∙ sym (none sum)
  first-sum false s rest sum is = ap (λ k. (if s.to == to then measure s.message else 0) + k) is

  pub listed-sum : (sent_system : List SentSystem) → total (measure_to to measure) (listed_of sent_system) ≡ total (listed_measure to measure) sent_system
  listed-sum [] = refl
  listed-sum (s ∷ sent_system) = first-sum s.was_ended s (listed_of sent_system) (total (listed_measure to measure) sent_system) (listed-sum sent_system)

  -- what was put into an actor's list is what was sent to it and its list took
  pub puts-sum : (sent_system : List SentSystem) (old new : View) → listed_by new.log ≡ listed_of (reverse sent_system) ++ listed_by old.log →
      put_by to (λ (m : ℕ × SysMsg). measure m.1) new
      ≡ put_by to (λ (m : ℕ × SysMsg). measure m.1) old + total (listed_measure to measure) sent_system
  puts-sum sent_system old new puts =
      let after = put-sum new.log ∙ ap (total (measure_to to measure)) puts
      ∙ total_append (measure_to to measure) (listed_of (reverse sent_system)) (listed_by old.log) in
      let sent = listed-sum (reverse sent_system) ∙ reverse-sum (listed_measure to measure) sent_system in
      let before = put-sum old.log in omega arith
