-- The numbers of the failures in a bank.
use Rattle.std.specs.Prelude.{ℕ}

-- a balance is below zero after a withdrawal
abbrev pub overdraft : ℕ
overdraft = 1

-- a balance would not fit in 64 bits
abbrev pub out_of_range : ℕ
out_of_range = 2

-- an account of a teller is no actor
abbrev pub no_account : ℕ
no_account = 3
