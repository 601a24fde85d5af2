-- What an actor shows that adds up what it gets.
use Rattle.std.specs.Prelude.{ℕ, ℤ, pos, ◌+ℤ◌, ◌==◌, if◌then◌else◌, List, fold}
use Rattle.std.specs.Int.{w64, saturate_signed}
use Rattle.mb_actor.specs.declared.message.Message.{Message}
use Rattle.mb_actor.specs.declared.message.Message.TheVariants.{User, Control, Terminated}

-- the sum with one value more, if that is of kind 1, held at the ends of 64 bits
abbrev pub sum_with_value : ℤ → ℕ → ℤ → ℤ
sum_with_value sum kind value = if kind == 1 then saturate_signed w64 (sum +ℤ value) else sum

-- the sum with one message more
abbrev pub sum_with : ℤ → Message → ℤ
sum_with sum (User kind value) = sum_with_value sum kind value
sum_with sum (Control kind value) = sum_with_value sum kind value
sum_with sum (Terminated who) = sum

-- the sum of the values of kind 1 among these messages
abbrev pub sum_of : List Message → ℤ
sum_of = fold sum_with (pos 0)
