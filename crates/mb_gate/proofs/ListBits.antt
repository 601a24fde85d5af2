-- The bits of the word of a list's gate, as arithmetic.
use Rattle.std.proofs.Common.{ℕ, ◌+◌, ◌-◌, ◌*◌, ◌/◌, ◌%◌, ◌≡◌, bit_and, bit_or, arith}
use Rattle.std.proofs.lemmas.Bool.Decides.{nat_tests}
use Rattle.std.proofs.lemmas.Nat.{and_mask}
use Rattle.std.proofs.lemmas.Nat.Bits.{and_pow, and_high}
use lib.Bits.{or_add_and}

pub locked_bit : (word : ℕ) → bit_and word 1 ≡ word % 2
locked_bit word = and_mask word 1

pub listed_bit : (word : ℕ) → bit_and word 2 ≡ word / 2 % 2 * 2
listed_bit word = and_pow word 1

pub gave_bit : (word : ℕ) → bit_and word 4 ≡ word / 4 % 2 * 4
gave_bit word = and_pow word 2

pub ended_bit : (word : ℕ) → bit_and word 8 ≡ word / 8 % 2 * 8
ended_bit word = and_pow word 3

pub work_bits : (word : ℕ) → bit_and word 6 ≡ word / 2 % 4 * 2
work_bits word = and_high word 2 1

pub drained_bits : (word : ℕ) → bit_and word 7 ≡ word % 8
drained_bits word = and_mask word 3

pub locked_set : (word : ℕ) → bit_or word 1 ≡ word + 1 - word % 2
locked_set word = omega (arith, or_add_and word 1, locked_bit word)

pub listed_set : (word : ℕ) → bit_or word 2 ≡ word + 2 - word / 2 % 2 * 2
listed_set word = omega (arith, or_add_and word 2, listed_bit word)

pub gave_set : (word : ℕ) → bit_or word 4 ≡ word + 4 - word / 4 % 2 * 4
gave_set word = omega (arith, or_add_and word 4, gave_bit word)

pub ended_set : (word : ℕ) → bit_or word 8 ≡ word + 8 - word / 8 % 2 * 8
ended_set word = omega (arith, or_add_and word 8, ended_bit word)

-- the bits as arithmetic, and what a test says of them
pub ruleset bit_rules = (
  locked_bit,
  listed_bit,
  gave_bit,
  ended_bit,
  work_bits,
  drained_bits,
  locked_set,
  listed_set,
  gave_set,
  ended_set,
  nat_tests,
)
