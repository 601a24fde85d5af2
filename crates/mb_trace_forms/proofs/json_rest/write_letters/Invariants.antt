use Rattle.std.proofs.Common.{map, string_bytes, take}
use Rattle.std.specs.Io.KnownBytes.{Appends}
use Rattle.std.specs.List.{flat_map}
use Rattle.mb_trace_forms.specs.JsonRest.{letter_json}
use Rattle.mb_trace_forms.proofs.json_rest.write_letters.Given as goal

-- the lines so far are written
abbrev pub invariant-loop-letter : goal.invariant-loop-letter
invariant-loop-letter g l =
    Appends (g.W.Write.contents l.fn.out) (g.W.Write.contents l.out) (flat_map (letter_json (map string_bytes l.names)) (take l.letter-index l.letters))
