use Rattle.std.proofs.Common.{◌++◌, [], ap, map, string_bytes, sym}
use Rattle.std.specs.Prelude.{if◌then◌else◌}
use Rattle.mb_trace.specs.Steps.{step_data}
use Rattle.mb_trace.specs.Text.{step_text, title_text}
use Rattle.mb_trace.proofs.Written.{begins-first, begins-same, err-written, written-same, written-second}
use Rattle.mb_trace.proofs.parts.write_below.Goals as goal

pub returns-in_err-write_title : goal.returns-in_err-write_title
returns-in_err-write_title g c =
    let names = map string_bytes c.args.names.now in
    let title = title_text names c.args.part.title.now c.args.part.actor.0 in
    let lines = step_text names (step_data c.args.step.now) in
    err-written _ _ _ c.from_residual.result _ c.from_residual.ensures.1
    (begins-same _ _ _ _ (ap (λ b. (if b then [] else title) ++ lines) (sym c.if-not-has_title.true))
    (begins-first _ _ title lines c.in_err-write_title.ensures))

pub returns-then-not-has_title : goal.returns-then-not-has_title
returns-then-not-has_title g c =
    let names = map string_bytes c.args.names.now in
    let title = title_text names c.args.part.title.now c.args.part.actor.0 in
    let lines = step_text names (step_data c.args.step.now) in
    written-same _ _ c.write_entry.result _ _ (ap (λ b. (if b then [] else title) ++ lines) (sym c.if-not-has_title.true))
    (written-second _ _ _ c.write_entry.result title lines c.in_ok-write_title.ensures c.write_entry.ensures)
