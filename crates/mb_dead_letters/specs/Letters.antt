-- Which dead letters are counted together: those to a receiver, and those for a reason (this project's own profile: Akka gives no reason).
use Rattle.std.specs.Prelude.{ℕ, ◌==◌, Bool}
use Rattle.mb_msg.specs.declared.dead_letter.DeadLetter.{DeadLetter}
use Rattle.mb_msg.specs.declared.dead_letter.DeadLetterReason.{DeadLetterReason}
use Rattle.mb_msg.specs.declared.dead_letter.DeadLetterReason.TheVariants as why

-- the dead letter was sent to the actor of this number
abbrev pub is_to : ℕ → DeadLetter → Bool
is_to id letter = letter.envelope.to.0 == id

-- the reasons, numbered
abbrev pub reason_number : DeadLetterReason → ℕ
reason_number why.Closed = 0
reason_number why.Full = 1
reason_number why.NoMemory = 2
reason_number why.Cleaned = 3

-- the dead letter is dead for the reason of this number
abbrev pub is_for_number : ℕ → DeadLetter → Bool
is_for_number number letter = reason_number letter.why == number

-- the dead letter is dead for this reason
abbrev pub is_for : DeadLetterReason → DeadLetter → Bool
is_for reason letter = is_for_number (reason_number reason) letter
