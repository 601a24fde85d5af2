-- What an account does.
use Rattle.std.specs.Prelude.{◌≡◌, ℕ, ℤ, pos, ◌+ℤ◌, ◌-ℤ◌, int_le, ◌&&◌, not, ◌==◌, nat_le, Bool, if◌then◌else◌, List, [], fold, Option, Some, None}
use Rattle.mb_msg.specs.declared.id.ActorId.{ActorId}
use Rattle.mb_actor.specs.Behaviour.{Reply}
use Rattle.mb_actor.specs.OutboxView.{OutboxView, added, refusal}
use Rattle.mb_actor.specs.declared.answer.Answer.{Answer}
use Rattle.mb_actor.specs.declared.answer.Answer.TheVariants.{Handled, Unhandled}
use Rattle.mb_actor.specs.declared.effect.Effect.{Effect}
use Rattle.mb_typed.specs.Sending.{tell_of}
use Rattle.mb_typed.specs.TypedBehaviour.{TypedMoment}
use Rattle.mb_typed.specs.declared.incoming.Incoming.{Incoming}
use Rattle.mb_typed.specs.declared.incoming.Incoming.TheVariants.{Command, Terminated}
use Rattle.mb_typed.specs.declared.typed_call.TypedCall.{TypedCall}
use Rattle.mb_typed.specs.declared.typed_call.TypedCall.TheVariants.{Start, Receive, Restart, Stop}
use Rattle.bank_shell_actors.specs.Bookings.{packed}
use Rattle.bank_shell_actors.specs.declared.booking.Booking.{Booking}
use Rattle.bank_shell_actors.specs.declared.booking.Booking.TheVariants.{Deposit, Transfer}

-- the accounts of a bank have the numbers from 1 on
abbrev pub is_account : ℕ → ActorId → Bool
is_account accounts id = not (id.0 == 0) && nat_le id.0 accounts

-- a booking is carried out at this balance: the sum fits 64 bits, or so much is there for an account of the bank
abbrev pub is_booked : ℕ → ℤ → Booking → Bool
is_booked accounts balance (Deposit amount) = int_le (balance +ℤ pos amount) (pos 9223372036854775807)
is_booked accounts balance (Transfer to amount) = is_account accounts to && int_le (pos amount) balance

-- what a booking makes of the balance
abbrev pub sum_with : ℤ → Booking → ℤ
sum_with balance (Deposit amount) = balance +ℤ pos amount
sum_with balance (Transfer to amount) = balance -ℤ pos amount

-- the balance after one more of what came: only a booking that is carried out changes it
abbrev pub balance_with : ℕ → ℤ → Incoming Booking → ℤ
balance_with accounts balance (Command booking) = if is_booked accounts balance booking then sum_with balance booking else balance
balance_with accounts balance (Terminated who) = balance

-- the balance of an account of a bank with so many, after all this
abbrev pub balance_after : ℕ → List (Incoming Booking) → ℤ
balance_after accounts got = fold (balance_with accounts) (pos 0) got

-- the answer to a call at this balance
abbrev pub account_answer : ℕ → ℤ → TypedCall Booking → Option Answer
account_answer accounts balance Start = Some Handled
account_answer accounts balance (Receive (Command booking)) = Some (if is_booked accounts balance booking then Handled else Unhandled)
account_answer accounts balance (Receive (Terminated who)) = Some Unhandled
account_answer accounts balance (Restart cause) = Some Handled
account_answer accounts balance Stop = None

-- the effects of a booking that is carried out, from an outbox without any: the other account of a transfer is told of a deposit
abbrev pub booking_effects : OutboxView → Booking → List Effect
booking_effects tray (Deposit amount) = []
booking_effects tray (Transfer to amount) =
    (added (refusal tray (tell_of to (packed (Deposit amount)))) (tell_of to (packed (Deposit amount))) tray).effects

-- the effects of a call at this balance
abbrev pub account_effects : ℕ → OutboxView → ℤ → TypedCall Booking → List Effect
account_effects accounts tray balance Start = []
account_effects accounts tray balance (Receive (Command booking)) = if is_booked accounts balance booking then booking_effects tray booking else []
account_effects accounts tray balance (Receive (Terminated who)) = []
account_effects accounts tray balance (Restart cause) = []
account_effects accounts tray balance Stop = []

-- a call of an account gives exactly that answer and these effects
abbrev pub account_gives : ℕ → TypedMoment Booking → Reply → Type 0
account_gives accounts moment reply =
    (reply.answer ≡ account_answer accounts (balance_after accounts moment.messages) moment.call)
    × (reply.effects ≡ account_effects accounts (record { effects = []; actors = moment.actors; unspawned = moment.unspawned })
    (balance_after accounts moment.messages) moment.call)
