-- What messages add to an account, and which of them it books.
use Rattle.std.specs.Prelude.{ℤ, pos, Bool, true}
use Rattle.mb_actor.specs.declared.message.Message.{Message}
use Rattle.mb_actor.specs.declared.message.Message.TheVariants.{User, Control, Terminated}
use Rattle.mb_quantity.specs.Quantity.{Holding}
use Rattle.bank_actors.specs.BankAccount.{balance_after, is_balance, sum_with}
use Rattle.bank_actors.specs.Money.{worth}

-- what a message adds to the balance of the account that books it: what it is worth in money
abbrev pub added_by : Message → ℤ
added_by (User kind value) = worth kind value
added_by (Control kind value) = pos 0
added_by (Terminated who) = pos 0

-- the message is booked at this balance: the sum fits
abbrev pub is_booked : ℤ → Message → Bool
is_booked balance (User kind value) = is_balance (sum_with balance kind value)
is_booked balance (Control kind value) = true
is_booked balance (Terminated who) = true

-- the money in an account that was opened with this balance
abbrev pub account : ℤ → Holding
account opening = record { held = balance_after opening; books = λ before message. is_booked (balance_after opening before) message }
