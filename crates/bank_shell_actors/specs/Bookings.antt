-- How bookings travel.
use Rattle.std.specs.Prelude.{◌≡◌, ◌<◌, ◌^◌, ℕ, pos, ◌==◌, if◌then◌else◌, Option, Some, None}
use Rattle.std.proofs.Common.{◌∙◌, ap}
use Rattle.mb_msg.specs.declared.id.ActorId.{ActorId}
use Rattle.mb_typed.specs.Halves.{actor_of, joined, lower_of, upper_of}
use Rattle.mb_typed.proofs.JoinedHalves.{actor-joined, lower-joined}
use Rattle.mb_typed.specs.declared.packed.Packed.{Packed}
use Rattle.bank_shell_actors.specs.declared.booking.Booking.{Booking}
use Rattle.bank_shell_actors.specs.declared.booking.Booking.TheVariants.{Deposit, Transfer}

-- a deposit has kind 1 and its amount, a transfer kind 2, the number of the other account and its amount
abbrev pub packed : Booking → Packed
packed (Deposit amount) = record { kind = 1; value = joined (pos 0) amount }
packed (Transfer to amount) = record { kind = 2; value = joined (pos to.0) amount }

-- a transfer of this amount to that account, if there is one
abbrev pub transfer_to : Option ActorId → ℕ → Option Booking
transfer_to (Some to) amount = Some (Transfer to amount)
transfer_to None amount = None

-- the booking that a kind and a value stand for
abbrev pub unpacked : Packed → Option Booking
unpacked from =
    if from.kind == 1 then Some (Deposit (lower_of from.value))
    else (if from.kind == 2 then transfer_to (actor_of (upper_of from.value)) (lower_of from.value) else None)

-- a booking's numbers fit their types
abbrev pub fits : Booking → Type 0
fits (Deposit amount) = amount < 2 ^ 32
fits (Transfer to amount) = (to.0 < 2 ^ 16) × (amount < 2 ^ 32)

-- each booking comes back as it was
pub comes_back : (booking : Booking) → fits booking → unpacked (packed booking) ≡ Some booking
comes_back (Deposit amount) fit = ap (λ n. Some (Deposit n)) (lower-joined (pos 0) amount fit)
comes_back (Transfer to amount) fit =
    ap (λ n. transfer_to (actor_of (upper_of (joined (pos to.0) amount))) n) (lower-joined (pos to.0) amount fit.1)
    ∙ ap (λ found. transfer_to found amount) (actor-joined to amount fit.0 fit.1)
