use Rattle.std.proofs.Common.{map, string_bytes, take}
use Rattle.std.specs.Io.KnownBytes.{Appends}
use Rattle.std.specs.List.{flat_map}
use Rattle.mb_trace_forms.specs.JsonRest.{aside_json}
use Rattle.mb_trace_forms.proofs.json_rest.write_messages.Given as goal

-- the lines so far are written
abbrev pub invariant-loop-message : goal.invariant-loop-message
invariant-loop-message g l =
    Appends (g.W.Write.contents l.fn.out) (g.W.Write.contents l.out) (flat_map (aside_json (map string_bytes l.names) l.actor.0) (take l.message-index l.aside))
