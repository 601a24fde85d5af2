use Rattle.std.proofs.Common.{List, length, map, ap, ◌∙◌, arith, string_bytes, String}
use Rattle.std.specs.declared.alloc.Global.{Global}
use Rattle.std.proofs.lemmas.List.{length-map}
use Rattle.mb_report.specs.Lines.{report_text_of}
use Rattle.mb_program.proofs.answer.answer.Goals as goal

pub report_text-requires : goal.report_text-requires
report_text-requires g c =
    let read = c.in_ok-names.field-0 in
    let names = ap (λ (l : List (String Global)). length l) c.deref.ensures.value in
    let many = c.in_ok-names.ensures.run_of.same_count in
    let mapped = length-map read.names.items string_bytes in
    omega (arith, names, many, mapped)

pub returns-clause-report : goal.returns-clause-report
returns-clause-report g c =
    let of = c.in_ok-names.ensures.run_of in
    let report = c.in_ok-names.field-0.run.report in (
      of.scenario,
      of.read,
      record {
        report = report;
        ran = of.ran;
        keeps = c.in_ok-names.ensures.kept;
        text = c.in_ok-report_text.ensures ∙ ap (λ (l : List (String Global)). report_text_of (map string_bytes l) report) c.deref.ensures.value
            ∙ ap (λ names. report_text_of names report) of.named;
      },
    )
