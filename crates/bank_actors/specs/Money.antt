-- Money in a bank: the kinds of messages that move it, and what each is worth.
use Rattle.std.specs.Prelude.{ℕ, ℤ, pos, ◌-ℤ◌, ◌==◌, if◌then◌else◌}

-- the amount is added to the receiver's balance
abbrev pub deposit : ℕ
deposit = 1

-- the amount is taken from the receiver's balance
abbrev pub withdraw : ℕ
withdraw = 2

-- the amount is to be moved from one account to another
abbrev pub transfer : ℕ
transfer = 3

-- what a message of this kind adds to the money in accounts: a withdrawal takes its amount away, and a transfer, which asks
-- for both a withdrawal and a deposit, adds nothing
abbrev pub worth : ℕ → ℤ → ℤ
worth kind amount = if kind == deposit then amount else (if kind == withdraw then pos 0 -ℤ amount else pos 0)
