use Rattle.std.proofs.Common.{map, string_bytes, take}
use Rattle.std.specs.Io.KnownBytes.{Appends}
use Rattle.std.specs.List.{flat_map}
use Rattle.mb_trace_forms.specs.JsonRest.{queued_json}
use Rattle.mb_trace_forms.proofs.json_rest.write_queues.Given as goal

-- the lines so far are written
abbrev pub invariant-loop-actor : goal.invariant-loop-actor
invariant-loop-actor g l =
    Appends (g.W.Write.contents l.fn.out) (g.W.Write.contents l.out) (flat_map (queued_json (map string_bytes l.names) l.filter) (take l.actor-index l.actors))
