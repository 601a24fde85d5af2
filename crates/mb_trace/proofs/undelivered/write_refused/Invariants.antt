use Rattle.std.proofs.Common.{map, string_bytes, take}
use Rattle.std.specs.Io.KnownBytes.{Appends}
use Rattle.std.specs.List.{flat_map}
use Rattle.mb_msg.specs.declared.dead_letter.DeadLetter.{DeadLetter}
use Rattle.mb_trace.specs.Ends.{letter_text}
use Rattle.mb_trace.specs.Undelivered.{where_shown}
use Rattle.mb_trace.proofs.undelivered.write_refused.Given as goal

-- the lines so far are written
abbrev pub invariant-loop-letter : goal.invariant-loop-letter
invariant-loop-letter g l =
    Appends (g.W.Write.contents l.fn.out) (g.W.Write.contents l.out) (flat_map (λ (d : DeadLetter). where_shown l.filter d.envelope.to.0 (letter_text (map string_bytes l.names) d.envelope d.why)) (take l.letter-index l.letter-items))
