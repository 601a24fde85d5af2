use Rattle.std.proofs.Common.{map, string_bytes, take}
use Rattle.std.specs.Io.KnownBytes.{Appends}
use Rattle.std.specs.List.{flat_map}
use Rattle.mb_trace.specs.Undelivered.{queued_text}
use Rattle.mb_trace.proofs.undelivered.write_all_left.Given as goal

-- the lines so far are written
abbrev pub invariant-loop-actor : goal.invariant-loop-actor
invariant-loop-actor g l =
    Appends (g.W.Write.contents l.fn.out) (g.W.Write.contents l.out) (flat_map (queued_text (map string_bytes l.names) l.filter) (take l.actor-index l.actors))
