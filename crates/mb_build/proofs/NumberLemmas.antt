-- Numbers in order.
use Rattle.std.proofs.Common.{◌≡◌, ◌≢◌, ◌≤◌, ◌<◌, ℕ, zero, suc, ◌+◌, ◌-◌, List, [], ◌∷◌, ◌++◌, drop, refl, sym, ap, ◌∙◌, append_assoc, arith}
use Rattle.std.specs.Prelude.{All, AllPairs}
use Rattle.std.proofs.lemmas.List.{map-append}
use Rattle.std.proofs.lemmas.List.Elements.{All-append, All-cons, All-nil}
use Rattle.std.proofs.lemmas.List.Kept.{AllPairs-cons}
use Rattle.mb_msg.specs.declared.id.SenderId.{SenderId}
use Rattle.mb_queue.specs.Made.{numbers_of}
use Rattle.mb_build.specs.Numbers.{numbers, sender_numbers}

pub numbers-more : (first count : ℕ) → numbers first (suc count) ≡ numbers first count ++ (first + count) ∷ []
numbers-more first zero = ap (λ n. n ∷ []) (omega arith)
numbers-more first (suc count) =
    ap (λ l. first ∷ l) (numbers-more (first + 1) count ∙ ap (λ n. numbers (first + 1) count ++ n ∷ []) (omega arith))

shifted : (first number : ℕ) → first ≤ number → suc (number - first) ≡ (number + 1) - first
shifted first number le = omega (arith, le)

-- one number more
pub one-number-more : (old now new : List SenderId) (first number : ℕ) → first ≤ number
    → numbers_of now ≡ numbers_of old ++ numbers first (number - first) → new ≡ now ++ record { 0 = number } ∷ []
    → numbers_of new ≡ numbers_of old ++ numbers first ((number + 1) - first)
one-number-more old now new first number le before is =
    ap numbers_of is ∙ map-append (λ (s : SenderId). s.0) now (record { 0 = number } ∷ [])
    ∙ ap (λ l. l ++ number ∷ []) before
    ∙ append_assoc (numbers_of old) (numbers first (number - first)) (number ∷ [])
    ∙ ap (λ l. numbers_of old ++ l) (ap (λ n. numbers first (number - first) ++ n ∷ []) (omega (arith, le))
    ∙ sym (numbers-more first (number - first)) ∙ ap (numbers first) (shifted first number le))

-- a number below the first of these is none of them
none-below : (b first count : ℕ) → b < first → All (λ (n : ℕ). b ≢ n) (numbers first count)
none-below b first zero lt = All-nil (λ (n : ℕ). b ≢ n)
none-below b first (suc count) lt =
    All-cons (λ (n : ℕ). b ≢ n) first (numbers (first + 1) count) (λ same. absurd (omega (arith, lt, same)))
    (none-below b (first + 1) count (omega (arith, lt)))

-- numbers in order are different
all-different : (first count : ℕ) → AllPairs (λ (a b : ℕ). a ≢ b) (numbers first count)
all-different first zero = λ i j d lt within. absurd (omega (arith, within))
all-different first (suc count) =
    AllPairs-cons (λ (a b : ℕ). a ≢ b) first (numbers (first + 1) count) (none-below first (first + 1) count (omega arith))
    (all-different (first + 1) count)

-- so are those and others that come after them
two-runs : (first count other more : ℕ) → first + count ≤ other → AllPairs (λ (a b : ℕ). a ≢ b) (numbers first count ++ numbers other more)
two-runs first zero other more le = all-different other more
two-runs first (suc count) other more le =
    AllPairs-cons (λ (a b : ℕ). a ≢ b) first (numbers (first + 1) count ++ numbers other more)
    (All-append (λ (n : ℕ). first ≢ n) (numbers (first + 1) count) (numbers other more) (none-below first (first + 1) count (omega arith))
    (none-below first other more (omega (arith, le))))
    (two-runs (first + 1) count other more (omega (arith, le)))

-- no two senders have one number
pub senders-different : (actors outside : ℕ) → actors ≤ 64 → AllPairs (λ (a b : ℕ). a ≢ b) (sender_numbers actors outside)
senders-different actors outside le = two-runs 0 actors 64 outside (omega (arith, le))

-- the number in this place, and those after it
pub number-there : (first count place : ℕ) (more : List ℕ) → place < count
    → drop place (numbers first count ++ more) ≡ (first + place) ∷ drop (suc place) (numbers first count ++ more)
number-there first zero place more lt = absurd (omega (arith, lt))
number-there first (suc count) zero more lt = ap (λ n. n ∷ numbers (first + 1) count ++ more) (omega arith)
number-there first (suc count) (suc place) more lt =
    number-there (first + 1) count place more (omega (arith, lt))
    ∙ ap (λ n. n ∷ drop (suc place) (numbers (first + 1) count ++ more)) (omega arith)

-- the numbers after the first run
pub after-run : (first count : ℕ) (more : List ℕ) → drop count (numbers first count ++ more) ≡ more
after-run first zero more = refl
after-run first (suc count) more = after-run (first + 1) count more
