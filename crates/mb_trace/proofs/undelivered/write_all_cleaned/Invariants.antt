use Rattle.std.proofs.Common.{map, string_bytes, take}
use Rattle.std.specs.Io.KnownBytes.{Appends}
use Rattle.std.specs.List.{flat_map}
use Rattle.mb_report.specs.declared.report.ActorReport.{ActorReport}
use Rattle.mb_trace.specs.Undelivered.{cleaned_text, readable_cleaned}
use Rattle.mb_trace.proofs.undelivered.write_all_cleaned.Given as goal

-- the lines so far are written
abbrev pub invariant-loop-actor : goal.invariant-loop-actor
invariant-loop-actor g l =
    Appends (g.W.Write.contents l.fn.out) (g.W.Write.contents l.out) (flat_map (λ (r : ActorReport). cleaned_text (map string_bytes l.names) l.filter (readable_cleaned r)) (take l.actor-index l.actors))
