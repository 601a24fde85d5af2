use Rattle.std.proofs.Common.{◌≡◌, List, length, get_or, ◌∙◌, refl, sym, ap, subst, arith, ◌+◌}
use Rattle.std.proofs.lemmas.List.{length_push}
use Rattle.mb_causal_order.specs.Places.{journal_of}
use Rattle.mb_trace.specs.Actors.{who_in}
use Rattle.mb_trace.specs.declared.cursor.JournalCursor.{JournalCursor}
use Rattle.mb_trace.proofs.At.{at-all, more-at, more-begun, IsIn}
use Rattle.mb_trace.proofs.Left.{left-all}
use Rattle.mb_trace.proofs.steps.TraceSteps.new.Goals as goal

pub loop-number-preserved : goal.loop-number-preserved
loop-number-preserved c =
    let trace = c.args.trace in
    let n = c.loop-number.number in
    let grown = c.in_ok-push.ensures.items in
    let cursors = c.loop-number.cursors.items in
    let so_far = c.loop-number.invariant in
    let journal = journal_of trace.report.now.actors.items n in
    let fresh = at-all trace n _ journal c.new.result c.rules_of-rules.ensures.script refl (c.new.ensures.at (who_in trace.plan.now n) journal) in
    record {
      as_many = ap length grown ∙ (length_push cursors c.new.result ∙ ap (λ m. m + 1) so_far.as_many);
      each = λ a x within. subst (λ (items : List JournalCursor). IsIn trace a (get_or items a x)) (sym grown)
          (more-at trace cursors n c.new.result so_far.as_many so_far.each fresh a x within);
      begun = λ a x within. subst (λ (items : List JournalCursor). (get_or items a x).next ≡ 0) (sym grown)
          (more-begun cursors n c.new.result so_far.as_many c.new.ensures.next so_far.begun a x within);
    }

pub returns : goal.returns
returns c =
    let so_far = c.loop-number.invariant in
    let all : c.loop-number.number ≡ length c.args.trace.report.now.actors.items = omega (arith, c.loop-number-test.false, c.loop-number.auto.number-end, c.len-number-end.ensures) in
    left-all c.args.trace c.loop-number.cursors.items (so_far.as_many ∙ all) (λ a d within. so_far.begun a d (omega (arith, within, so_far.as_many)))
