use Rattle.std.proofs.Common.{◌≡◌, map, take}
use Rattle.mailtrace.specs.TurnLengths.{length_of}
use Rattle.mailtrace.proofs.turn_lengths.turn_lengths.Given as goal

-- the lengths so far are those of the turns so far
abbrev pub invariant-loop-turn : goal.invariant-loop-turn
invariant-loop-turn l = l.lengths.items ≡ map length_of (take l.turn-index l.turns)
