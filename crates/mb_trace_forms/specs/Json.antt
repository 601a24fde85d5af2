-- The whole trace as lines of JSON (this project's own profile).
use Rattle.std.specs.Prelude.{ℕ, ◌≡◌, List, ◌++◌}
use Rattle.std.specs.List.{flat_map}
use Rattle.mb_diagram.specs.declared.order.EntryOrder.{EntryOrder}
use Rattle.mb_trace.specs.Steps.{Step}
use Rattle.mb_trace.specs.Text.{shown}
use Rattle.mb_trace.specs.Whole.{names_in}
use Rattle.mb_trace.specs.declared.filter.Filter.{Filter}
use Rattle.mb_trace.specs.declared.trace.Trace.{Trace}
use Rattle.mb_trace_json.specs.Entries.{entry_data}
use Rattle.mb_trace_json.specs.Lines.{line_text}
use Rattle.mb_trace_forms.specs.JsonRest.{rest_json}
use Rattle.mb_trace_forms.specs.Order.{AreEntries}

-- the line of an entry
abbrev pub step_json : List (List ℕ) → Step → List ℕ
step_json names s = line_text (entry_data names s.actor s.index s.after s.entry)

-- a line for each of these entries that the filter leaves, of which at most so many are shown
abbrev pub entries_json : List (List ℕ) → Filter → ℕ → List Step → List ℕ
entries_json names f limit steps = flat_map (step_json names) (shown f limit steps)

-- the text is the trace as lines of JSON: those of its entries, in the order of the text, and then of what stands at the end
pub record IsJson (trace : Trace) (f : Filter) (text : List ℕ) : Type 0 where
  pub order : EntryOrder
  pub steps : List Step
  pub are_entries : AreEntries trace trace.turns order steps
  pub text_is : text ≡ entries_json (names_in trace) f f.limit steps ++ rest_json (names_in trace) f trace.report.now
