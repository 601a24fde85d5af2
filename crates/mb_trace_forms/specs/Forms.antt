-- A trace in one of its forms (this project's own profile).
use Rattle.std.specs.Prelude.{ℕ, List, Option, Result}
use Rattle.mb_trace.specs.Output.{IsWritten}
use Rattle.mb_trace.specs.Whole.{IsText}
use Rattle.mb_trace.specs.declared.filter.Filter.{Filter}
use Rattle.mb_trace.specs.declared.trace.Trace.{Trace}
use Rattle.mb_trace_forms.specs.Json.{IsJson}
use Rattle.mb_trace_forms.specs.declared.format.TraceFormat.{TraceFormat}
use Rattle.mb_trace_forms.specs.declared.format.TraceFormat.TheVariants.{Html, Json, Svg, Text}

-- The trace was written in this form: as its text, or as its lines of JSON; after an error a beginning of that was. Of pictures nothing is said.
abbrev pub IsWrittenAs : {T E : Type 0} → Trace → Filter → TraceFormat → Option (List ℕ) → Option (List ℕ) → Result T E → Type 0
IsWrittenAs trace f Text old new result = (text : List ℕ) × IsText trace f text × IsWritten old new result text
IsWrittenAs trace f Json old new result = (text : List ℕ) × IsJson trace f text × IsWritten old new result text
IsWrittenAs trace f Svg old new result = Unit {0}
IsWrittenAs trace f Html old new result = Unit {0}
