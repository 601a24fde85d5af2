use Rattle.std.proofs.Common.{map, string_bytes, take}
use Rattle.std.specs.Io.KnownBytes.{Appends}
use Rattle.std.specs.List.{flat_map}
use Rattle.mb_trace_forms.specs.JsonRest.{left_json}
use Rattle.mb_trace_forms.proofs.json_rest.write_left.Given as goal

-- the lines so far are written
abbrev pub invariant-loop-envelope : goal.invariant-loop-envelope
invariant-loop-envelope g l =
    Appends (g.W.Write.contents l.fn.out) (g.W.Write.contents l.out) (flat_map (left_json (map string_bytes l.names) l.filter) (take l.envelope-index l.left))
