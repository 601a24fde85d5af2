-- A number with one bit set, or cleared; and its lowest.
use Rattle.std.proofs.Common.{◌≡◌, ◌≢◌, ◌==◌, ◌||◌, ◌&&◌, not, ◌<◌, ◌≤◌, ◌*◌, ◌%◌, ◌^◌, ◌⊎◌, inl}
use Rattle.std.proofs.Common.{inr, ℕ, bit_or, bit_and, true, false, sym, ap, ◌∙◌, arith}
use Rattle.std.specs.Int.{bit_at, bit_not, trailing_zeros}
use Rattle.std.proofs.lemmas.Nat.Bits.{bit_at_or, bit_at-pow_same, bit_at-pow_other, bit_at-lt}
use Rattle.std.proofs.lemmas.Nat.Bits.{bit_at_clear_same, bit_at_clear_other, bit_at-zero, bit_at-trailing_zeros, same_from_bits_below}
use Rattle.std.specs.Int.{w64}
use Rattle.std.proofs.lemmas.Bool.Decides.{nat_tests, eqb_tells}
use Rattle.std.proofs.Math.Dec.{eqb}
use Rattle.std.proofs.Math.Pow.{pow_mono}

with_same : (bits id : ℕ) → (bit_at (bit_or bits (2 ^ id)) id == 1) ≡ true
with_same bits id =
    let a = bit_at_or bits (2 ^ id) id in let b = bit_at-pow_same id in let c = bit_at-lt bits id in
    let d : bit_at (bit_or bits (2 ^ id)) id ≡ 1 = omega (arith, a, b, c) in
    ap (λ n. n == 1) d

with_other : (bits id other : ℕ) → other ≢ id → bit_at (bit_or bits (2 ^ id)) other ≡ bit_at bits other
with_other bits id other ne =
    let a = bit_at_or bits (2 ^ id) other in let b = bit_at-pow_other id other ne in omega (arith, a, b)

shifted : (id : ℕ) → id < 64 → 1 * 2 ^ id % 18446744073709551616 ≡ 2 ^ id
shifted id lt = let small : 2 ^ id ≤ 2 ^ 63 = pow_mono {i = id} {j = 63} (omega (arith, lt)) in omega (arith, small)

pub same_or_other : (n m : ℕ) → (n ≡ m) ⊎ (n ≢ m)
same_or_other n m = from_tell (eqb_tells n m)
  where
    from_tell : ((eqb n m ≡ true) × (n ≡ m)) ⊎ ((eqb n m ≡ false) × (n ≢ m)) → (n ≡ m) ⊎ (n ≢ m)
    from_tell (inl t) = inl t.1
    from_tell (inr t) = inr t.1

by_case : (bits id other : ℕ) → (other ≡ id) ⊎ (other ≢ id) → (bit_at (bit_or bits (2 ^ id)) other == 1)
    ≡ ((other == id) || (bit_at bits other == 1))
by_case bits id other (inl same) =
    let a : (other == id) ≡ true = grind (arith, nat_tests) in
    ap (λ o. bit_at (bit_or bits (2 ^ id)) o == 1) same ∙ with_same bits id ∙ sym (ap (λ b. b || (bit_at bits other == 1)) a)
by_case bits id other (inr ne) =
    let a : (other == id) ≡ false = grind (arith, nat_tests) in
    ap (λ n. n == 1) (with_other bits id other ne) ∙ sym (ap (λ b. b || (bit_at bits other == 1)) a)

pub with_bit : (bits id other : ℕ) → id < 64 → (bit_at (bit_or bits (1 * 2 ^ id % 18446744073709551616)) other == 1)
    ≡ ((other == id) || (bit_at bits other == 1))
with_bit bits id other lt = ap (λ n. bit_at (bit_or bits n) other == 1) (shifted id lt) ∙ by_case bits id other (same_or_other other id)

-- the bit that was cleared is none, and the others are as before
module _ (word id : ℕ) (lt : id < 64) where
  cleared : ℕ
  cleared = bit_and word (bit_not w64 (1 * 2 ^ id % 18446744073709551616))

  cleared-by : (other : ℕ) → other < 64 → (other ≡ id) ⊎ (other ≢ id) →
      (bit_at cleared other == 1) ≡ (not (other == id) && (bit_at word other == 1))
  unfolding cleared
  cleared-by other below (inl same) =
      let a : (other == id) ≡ true = grind (arith, nat_tests) in
      ap (λ o. bit_at cleared o == 1) same ∙ ap (λ n. n == 1) (bit_at_clear_same w64 word id lt)
      ∙ sym (ap (λ b. not b && (bit_at word other == 1)) a)
  cleared-by other below (inr ne) =
      let a : (other == id) ≡ false = grind (arith, nat_tests) in
      ap (λ n. n == 1) (bit_at_clear_other w64 word id lt other below ne) ∙ sym (ap (λ b. not b && (bit_at word other == 1)) a)

pub without_bit : (word id other : ℕ) → id < 64 → other < 64 →
    (bit_at (bit_and word (bit_not w64 (1 * 2 ^ id % 18446744073709551616))) other == 1) ≡ (not (other == id) && (bit_at word other == 1))
unfolding cleared
without_bit word id other lt below = cleared-by word id lt other below (same_or_other other id)

-- a number that is not 0 has its lowest bit where its trailing zeros end
pub no_bits : (id : ℕ) → (bit_at 0 id == 1) ≡ false
no_bits id = ap (λ n. n == 1) (bit_at-zero id)

pub lowest : (word : ℕ) → word ≢ 0 → word < 2 ^ 64 → (trailing_zeros w64 word < 64) × ((bit_at word (trailing_zeros w64 word) == 1) ≡ true)
    × ((i : ℕ) → i < trailing_zeros w64 word → (bit_at word i == 1) ≡ false)
lowest word some small =
    let first = bit_at-trailing_zeros w64 word (omega (arith, some)) small in
    (first.0, ap (λ n. n == 1) first.1, λ i lt. ap (λ n. n == 1) (first.2 i lt))

-- a number without bits is 0
pub none_is_zero : (word : ℕ) → word < 2 ^ 64 → ((id : ℕ) → (bit_at word id == 1) ≡ false) → word ≡ 0
none_is_zero word small none = same_from_bits_below 64 word 0 small (omega arith) (λ i lt. zero_at i ∙ sym (bit_at-zero i))
  where
    zero_at : (i : ℕ) → bit_at word i ≡ 0
    zero_at i = let a = none i in let b = bit_at-lt word i in grind (arith, nat_tests)
