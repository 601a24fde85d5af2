-- The bits of a word that keeps a set of actors.
use Rattle.std.proofs.Common.{ℕ, ◌*◌, ◌-◌, ◌%◌, ◌^◌, ◌<◌, ◌≤◌, ◌≡◌, false, not, ◌&&◌, ◌||◌, ◌==◌, min, bit_and, bit_or, ⊎_elim}
use Rattle.std.proofs.Common.{ap, ◌∙◌, sym, arith, w64}
use Rattle.std.specs.Int.{bit_at, bit_not}
use Rattle.std.proofs.lemmas.Bool.{cases_lt}
use Rattle.std.proofs.lemmas.Nat.Bits.{bit_at_and, bit_at_not, bit_at_set_same, bit_at_set_other, bit_at_above, bit_at-lt}

pub no_bit_above : (word i : ℕ) → word < 2 ^ 64 → 64 ≤ i → (bit_at word i == 1) ≡ false
no_bit_above word i fits above = ap (λ b. b == 1) (bit_at_above word 64 i fits above)

pub bit_set : (word k i : ℕ) → k < 64 → (bit_at (bit_or word (1 * 2 ^ k % 2 ^ 64)) i == 1) ≡ ((k == i) || (bit_at word i == 1))
bit_set word k i within = grind (arith, bit_at_set_same w64 word k within, bit_at_set_other w64 word k within i)

min_bit : (a b : ℕ) → a < 2 → b < 2 → (min a (1 - b) == 1) ≡ ((a == 1) && not (b == 1))
min_bit a b one other = grind arith

min_none : (a b r : ℕ) → a ≡ 0 → r ≡ min a b → (r == 1) ≡ false
min_none a b r none is = grind arith

pub bit_cleared : (word other i : ℕ) → word < 2 ^ 64 → other < 2 ^ 64 →
    (bit_at (bit_and word (2 ^ 64 - 1 - other)) i == 1) ≡ ((bit_at word i == 1) && not (bit_at other i == 1))
bit_cleared word other i fits other_fits =
    let conclusion : Type 0 = (bit_at (bit_and word (2 ^ 64 - 1 - other)) i == 1) ≡ ((bit_at word i == 1) && not (bit_at other i == 1)) in
    let below : i < 64 → conclusion =
    λ within. ap (λ b. b == 1) (bit_at_and word (bit_not w64 other) i ∙ ap (min (bit_at word i)) (bit_at_not w64 other i other_fits within))
    ∙ min_bit _ _ (bit_at-lt word i) (bit_at-lt other i) in
    let from : 64 ≤ i → conclusion =
    λ above. min_none _ _ _ (bit_at_above word 64 i fits above) (bit_at_and word (bit_not w64 other) i)
    ∙ sym (ap (λ b. b && not (bit_at other i == 1)) (no_bit_above word i fits above)) in
    ⊎_elim below from (cases_lt i 64)
