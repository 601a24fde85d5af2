use Rattle.std.proofs.Common.{◌≡◌, ℕ, ◌-◌, drop, length, take}
use Rattle.std.specs.Prelude.{filter}
use Rattle.std.specs.Io.KnownBytes.{Appends}
use Rattle.mb_trace.specs.Cursors.{left_of}
use Rattle.mb_trace.specs.Steps.{steps_in}
use Rattle.mb_trace.specs.Text.{entries_in, is_shown}
use Rattle.mb_trace.specs.Whole.{names_in}
use Rattle.mb_trace_forms.specs.Json.{entries_json}
use Rattle.mb_trace_forms.specs.Order.{part_steps}
use Rattle.mb_trace_forms.proofs.json.write_parts.Given as goal

-- the parts so far were gone past, and their entries that are shown are written
abbrev pub invariant-loop-part : goal.invariant-loop-part
invariant-loop-part g l = record {
  steps : (a : ℕ) → left_of l.shown.steps a ≡ drop (entries_in a (take l.part-index l.parts)) (steps_in l.trace a);
  same_filter : l.shown.filter ≡ l.fn.filter;
  left : l.shown.left ≡ l.fn.filter.limit - length (filter (is_shown l.fn.filter) (part_steps l.trace (take l.part-index l.parts)));
  written : Appends (g.W.Write.contents l.fn.out) (g.W.Write.contents l.out)
      (entries_json (names_in l.trace) l.fn.filter l.fn.filter.limit (part_steps l.trace (take l.part-index l.parts)));
}
