use Rattle.std.proofs.Common.{map, string_bytes, take}
use Rattle.std.specs.Io.KnownBytes.{Appends}
use Rattle.mb_trace.specs.Cursors.{left_of}
use Rattle.mb_trace_forms.specs.Json.{entries_json}
use Rattle.mb_trace_forms.specs.Way.{GoesPast}
use Rattle.mb_trace_forms.proofs.json.write_part.Given as goal

-- the entries so far were gone past, and those that are shown are written
abbrev pub invariant-loop-entry : goal.invariant-loop-entry
invariant-loop-entry g l = record {
  past : GoesPast l.part.actor.0 l._entry l.initial.shown l.shown;
  written : Appends (g.W.Write.contents l.initial.out) (g.W.Write.contents l.out)
      (entries_json (map string_bytes l.names) l.initial.shown.filter l.initial.shown.left
      (take l._entry (left_of l.initial.shown.steps l.part.actor.0)));
}
