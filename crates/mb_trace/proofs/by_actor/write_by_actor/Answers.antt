use Rattle.std.proofs.Common.{List, ap, map, string_bytes}
use Rattle.std.specs.Prelude.{codes}
use Rattle.mb_report.specs.declared.report.ActorReport.{ActorReport}
use Rattle.mb_trace.specs.Steps.{steps_in}
use Rattle.mb_trace.specs.Text.{journal_parts, parts_text}
use Rattle.mb_trace.proofs.Written.{appends-same, begins-first, begins-same, err-written, written-same, written-second}
use Rattle.mb_trace.proofs.by_actor.write_by_actor.Goals as goal

pub returns-in_err-write_whole : goal.returns-in_err-write_whole
returns-in_err-write_whole g c =
    let why = c.args.why.now in
    err-written _ _ _ c.from_residual.result _ c.from_residual.ensures.1
    (begins-first _ _ why _ (begins-same _ _ _ why c.as_bytes.ensures.value c.in_err-write_whole.ensures))

pub returns : goal.returns
returns g c =
    let trace = c.args.trace.now in
    let f = c.args.filter.now in
    let why = c.args.why.now in
    written-second _ _ _ c.write_journals.result why _ (appends-same _ _ _ why c.as_bytes.ensures.value c.in_ok-write_whole.ensures)
    (written-same _ _ c.write_journals.result _ _
    (ap (λ (l : List ActorReport). parts_text (map string_bytes trace.names.now) (codes "actor") f f.limit (journal_parts (steps_in trace) 0 l)) c.deref.ensures.value)
    c.write_journals.ensures)
