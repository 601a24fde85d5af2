-- The bit of the word that says that the mailbox is scheduled.
use Rattle.std.proofs.Common.{ℕ, ◌*◌, ◌/◌, ◌%◌, ◌≡◌, bit_and}
use Rattle.std.proofs.lemmas.Bool.Decides.{nat_tests}
use Rattle.std.proofs.lemmas.Nat.Bits.{and_pow}

pub scheduled_bit : (word : ℕ) → bit_and word 2 ≡ word / 2 % 2 * 2
scheduled_bit word = and_pow word 1

-- the bit as arithmetic, and what a test says of it
pub ruleset bit_rules = (scheduled_bit, nat_tests)
