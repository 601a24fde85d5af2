-- Two numbers in one value of 64 bits.
use Rattle.std.specs.Prelude.{ℕ, ℤ, pos, negsuc, ◌+ℤ◌, ◌*ℤ◌, ◌-◌, ◌%◌, ◌/◌, nat_lt, if◌then◌else◌, Option, Some, None}
use Rattle.mb_msg.specs.declared.id.ActorId.{ActorId}

-- the value whose upper half is the first of these numbers, and whose lower half is the second
abbrev pub joined : ℤ → ℕ → ℤ
joined upper lower = upper *ℤ pos 4294967296 +ℤ pos lower

-- the upper half of a value: a 2^32th of it, rounded down
abbrev pub upper_of : ℤ → ℤ
upper_of (pos n) = pos (n / 4294967296)
upper_of (negsuc n) = negsuc (n / 4294967296)

-- the lower half of a value: what remains then
abbrev pub lower_of : ℤ → ℕ
lower_of (pos n) = n % 4294967296
lower_of (negsuc n) = 4294967295 - n % 4294967296

-- the actor of this number: a number of 16 bits
abbrev pub actor_of : ℤ → Option ActorId
actor_of (pos n) = if nat_lt n 65536 then Some (record { 0 = n }) else None
actor_of (negsuc n) = None
