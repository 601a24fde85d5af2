-- What the benchmark sends, and what its actor makes of it (this project's own profile).
use Rattle.std.specs.Prelude.{ℕ, ℤ, pos, ◌+ℤ◌, List, fold, replicate}
use Rattle.std.specs.Int.{w64, saturate_signed}
use Rattle.mb_actor.specs.declared.message.Message.{Message}
use Rattle.mb_actor.specs.declared.message.Message.TheVariants.{User, Control, Terminated}

-- the sum after one message, held at the ends of 64 bits
abbrev pub after_message : ℤ → Message → ℤ
after_message sum (User kind value) = saturate_signed w64 (sum +ℤ value)
after_message sum (Control kind value) = saturate_signed w64 (sum +ℤ value)
after_message sum (Terminated who) = sum

-- the sum of the messages' values, added in order
abbrev pub sum_of : List Message → ℤ
sum_of messages = fold after_message (pos 0) messages

-- the messages that are sent: as many as are asked for, each of the kind 1 with the value 7
abbrev pub sends : ℕ → List Message
sends count = replicate count (User 1 (pos 7))
