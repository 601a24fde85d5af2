-- What a station of a relay adds up.
use Rattle.std.specs.Prelude.{ℤ, pos, ◌+ℤ◌, List, fold}
use Rattle.std.specs.Int.{w64, saturate_signed}
use Rattle.mb_actor.specs.declared.message.Message.{Message}
use Rattle.mb_actor.specs.declared.message.Message.TheVariants.{User}

-- the sum with one message more, held at the ends of 64 bits
abbrev pub sum_with : ℤ → Message → ℤ
sum_with sum (User kind value) = saturate_signed w64 (sum +ℤ value)
sum_with sum _ = sum

-- the sum of the values of these messages
abbrev pub sum_of : List Message → ℤ
sum_of = fold sum_with (pos 0)
