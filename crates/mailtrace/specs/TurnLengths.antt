-- What a trace is told of the turns of a quiet run (this project's own profile: Akka keeps no journal).
use Rattle.std.specs.Prelude.{ℕ, ◌+◌, ◌^◌, nat_lt, if◌then◌else◌}
use Rattle.mb_mailbox.specs.declared.turn.Turn.{Turn}
use Rattle.mb_trace.specs.declared.trace.TurnLength.{TurnLength}

-- How many entries a turn has: one for each system message and one for each envelope, or the greatest number of 64 bits if there are more.
abbrev pub entries_of : Turn → ℕ
entries_of turn = if nat_lt (turn.system + turn.envelopes) (2 ^ 64) then turn.system + turn.envelopes else 18446744073709551615

-- The actor of a turn, and how many entries it has.
abbrev pub length_of : Turn → TurnLength
length_of turn = record { actor = turn.actor; entries = entries_of turn }
