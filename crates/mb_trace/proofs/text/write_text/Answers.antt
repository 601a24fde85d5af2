use Rattle.std.proofs.Common.{◌++◌, refl}
use Rattle.mb_trace.specs.Undelivered.{rest_text}
use Rattle.mb_trace.specs.Whole.{names_in}
use Rattle.mb_trace.proofs.Readable.{rest-readable}
use Rattle.mb_trace.proofs.Written.{begins-first, err-written, written-same, written-second}
use Rattle.mb_trace.proofs.text.write_text.Goals as goal

pub returns-in_err-write_entries : goal.returns-in_err-write_entries
returns-in_err-write_entries g c =
    let trace = c.args.trace.now in
    let told = c.in_err-write_entries.ensures in
    let rest = rest_text (names_in trace) c.args.filter.now trace.report.now in (
      told.0 ++ rest,
      record { entries = told.0; are_entries = told.1; text_is = refl },
      err-written _ _ _ c.from_residual.result _ c.from_residual.ensures.1 (begins-first _ _ told.0 rest told.2),
    )

pub returns : goal.returns
returns g c =
    let trace = c.args.trace.now in
    let told = c.in_ok-write_entries.ensures in
    let rest = rest_text (names_in trace) c.args.filter.now trace.report.now in (
      told.0 ++ rest,
      record { entries = told.0; are_entries = told.1; text_is = refl },
      written-second _ _ _ c.write_rest.result told.0 rest told.2
          (written-same _ _ c.write_rest.result _ rest (rest-readable (names_in trace) c.args.filter.now trace.report.now trace.kept)
          c.write_rest.ensures),
    )
