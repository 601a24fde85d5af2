use Rattle.std.proofs.Common.{◌++◌, refl}
use Rattle.mb_trace.specs.Whole.{names_in}
use Rattle.mb_trace.proofs.Written.{begins-first, err-written, written-second}
use Rattle.mb_trace_forms.specs.Json.{entries_json}
use Rattle.mb_trace_forms.specs.JsonRest.{rest_json}
use Rattle.mb_trace_forms.proofs.json.write_json.Goals as goal

pub returns-in_err-write_entries : goal.returns-in_err-write_entries
returns-in_err-write_entries g c =
    let trace = c.args.trace.now in
    let f = c.args.filter.now in
    let told = c.in_err-write_entries.ensures in
    let lines = entries_json (names_in trace) f f.limit told.1 in
    let rest = rest_json (names_in trace) f trace.report.now in (
      lines ++ rest,
      record { order = told.0; steps = told.1; are_entries = told.2; text_is = refl },
      err-written _ _ _ c.from_residual.result _ c.from_residual.ensures.1 (begins-first _ _ lines rest told.3),
    )

pub returns : goal.returns
returns g c =
    let trace = c.args.trace.now in
    let f = c.args.filter.now in
    let told = c.in_ok-write_entries.ensures in
    let lines = entries_json (names_in trace) f f.limit told.1 in
    let rest = rest_json (names_in trace) f trace.report.now in (
      lines ++ rest,
      record { order = told.0; steps = told.1; are_entries = told.2; text_is = refl },
      written-second _ _ _ c.write_rest.result lines rest told.3 c.write_rest.ensures,
    )
