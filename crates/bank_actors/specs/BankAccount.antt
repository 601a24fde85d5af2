-- What an account does.
use Rattle.std.specs.Prelude.{◌≡◌, ℕ, ℤ, pos, negsuc, ◌+ℤ◌, ◌-ℤ◌, int_le, int_lt, ◌==◌, ◌&&◌, ◌||◌, not, Bool, if◌then◌else◌, List, [], fold, Option, Some, None}
use Rattle.mb_actor.specs.Behaviour.{Moment, Reply}
use Rattle.mb_actor.specs.declared.answer.Answer.{Answer}
use Rattle.mb_actor.specs.declared.answer.Answer.TheVariants.{Handled, Unhandled, Failed}
use Rattle.mb_actor.specs.declared.call.Call.{Call}
use Rattle.mb_actor.specs.declared.call.Call.TheVariants.{Start, Receive, Restart, Stop}
use Rattle.mb_actor.specs.declared.message.Message.{Message}
use Rattle.mb_actor.specs.declared.message.Message.TheVariants.{User}
use Rattle.bank_actors.specs.Failures.{out_of_range, overdraft}
use Rattle.bank_actors.specs.Money.{deposit, withdraw}

-- a balance that an account can have: one that fits in 64 bits
abbrev pub is_balance : ℤ → Bool
is_balance sum = int_le (negsuc 9223372036854775807) sum && int_le sum (pos 9223372036854775807)

-- the message moves money
abbrev pub is_booking : ℕ → Bool
is_booking kind = kind == deposit || kind == withdraw

-- the sum of a balance and what a message of this kind books
abbrev pub sum_with : ℤ → ℕ → ℤ → ℤ
sum_with balance kind amount = if kind == deposit then balance +ℤ amount else (if kind == withdraw then balance -ℤ amount else balance)

-- the balance once an amount is booked: a sum that would not fit is not booked
abbrev pub booked_amount : ℤ → ℕ → ℤ → ℤ
booked_amount balance kind amount = if is_balance (sum_with balance kind amount) then sum_with balance kind amount else balance

-- the balance after one message more
abbrev pub booked : ℤ → Message → ℤ
booked balance (User kind value) = booked_amount balance kind value
booked balance _ = balance

-- the balance of an account that was opened with this one, after these messages
abbrev pub balance_after : ℤ → List Message → ℤ
balance_after opening messages = fold booked opening messages

-- what an account with this balance answers to a message of this kind
abbrev pub answer_at : ℤ → ℕ → ℤ → Answer
answer_at balance kind amount =
    if not (is_booking kind) then Unhandled
    else (if not (is_balance (sum_with balance kind amount)) then Failed out_of_range
    else (if kind == withdraw && int_lt (sum_with balance kind amount) (pos 0) then Failed overdraft else Handled))

-- what an account with this balance answers to a call
abbrev pub account_answer : ℤ → Call → Option Answer
account_answer balance Start = Some Handled
account_answer balance (Receive (User kind value)) = Some (answer_at balance kind value)
account_answer balance (Receive _) = Some Unhandled
account_answer balance (Restart cause) = Some Handled
account_answer balance Stop = None

-- a call of an account gives exactly that answer, and asks for nothing
abbrev pub account_gives : ℤ → Moment → Reply → Type 0
account_gives opening moment reply =
    (reply.answer ≡ account_answer (balance_after opening moment.messages) moment.call) × (reply.effects ≡ [])
