use Rattle.std.proofs.Common.{◌≡◌, ◌++◌, ◌∙◌, [], ap, false, map, string_bytes, sym, true}
use Rattle.std.specs.Prelude.{codes, if◌then◌else◌}
use Rattle.mb_trace.specs.Steps.{step_data}
use Rattle.mb_trace.specs.Text.{is_above, step_text, title_text}
use Rattle.mb_trace.proofs.Written.{begins-first, begins-same, err-written, written-same, written-second}
use Rattle.mb_trace.proofs.on_threads.write_next.Goals as goal

pub returns-then-stands_above : goal.returns-then-stands_above
returns-then-stands_above g c =
    let names = map string_bytes c.args.names.now in
    let title = title_text names (codes "actor") c.args.step.now.actor.0 in
    let lines = step_text names (step_data c.args.step.now) in
    let on : is_above c.args.above c.args.step.now.actor.0 ≡ true = sym c.stands_above.ensures ∙ c.if-stands_above.true in
    written-same _ _ c.write_entry.result lines _ (ap (λ b. (if b then [] else title) ++ lines) (sym on)) c.write_entry.ensures

pub returns-in_err-write_title : goal.returns-in_err-write_title
returns-in_err-write_title g c =
    let names = map string_bytes c.args.names.now in
    let title = title_text names (codes "actor") c.args.step.now.actor.0 in
    let lines = step_text names (step_data c.args.step.now) in
    let off : is_above c.args.above c.args.step.now.actor.0 ≡ false = sym c.stands_above.ensures ∙ c.if-stands_above.false in
    err-written _ _ _ c.from_residual.result _ c.from_residual.ensures.1
    (begins-same _ _ _ _ (ap (λ b. (if b then [] else title) ++ lines) (sym off)) (begins-first _ _ title lines c.in_err-write_title.ensures))

pub returns : goal.returns
returns g c =
    let names = map string_bytes c.args.names.now in
    let title = title_text names (codes "actor") c.args.step.now.actor.0 in
    let lines = step_text names (step_data c.args.step.now) in
    let off : is_above c.args.above c.args.step.now.actor.0 ≡ false = sym c.stands_above.ensures ∙ c.if-stands_above.false in
    written-same _ _ c.write_entry-2.result _ _ (ap (λ b. (if b then [] else title) ++ lines) (sym off))
    (written-second _ _ _ c.write_entry-2.result title lines c.in_ok-write_title.ensures c.write_entry-2.ensures)
