use Rattle.std.proofs.Common.{map, string_bytes, take}
use Rattle.std.specs.Io.KnownBytes.{Appends}
use Rattle.std.specs.List.{flat_map}
use Rattle.mb_msg.specs.declared.dead_letter.DeadLetterReason.TheVariants as why
use Rattle.mb_msg.specs.declared.envelope.Envelope.{Envelope}
use Rattle.mb_trace.specs.Ends.{letter_text}
use Rattle.mb_trace.specs.Undelivered.{where_shown}
use Rattle.mb_trace.proofs.undelivered.write_cleaned.Given as goal

-- the lines so far are written
abbrev pub invariant-loop-envelope : goal.invariant-loop-envelope
invariant-loop-envelope g l =
    Appends (g.W.Write.contents l.fn.out) (g.W.Write.contents l.out) (flat_map (λ (e : Envelope). where_shown l.filter e.to.0 (letter_text (map string_bytes l.names) e why.Cleaned)) (take l.envelope-index l.envelope-items))
