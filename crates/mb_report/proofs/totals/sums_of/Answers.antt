use Rattle.std.proofs.Common.{◌+◌, ap, ◌∙◌, arith}
use Rattle.std.proofs.lemmas.List.Sums.{sum_by_more}
use Rattle.mb_report.specs.declared.line.Line.{Line}
use Rattle.mb_report.proofs.totals.sums_of.Goals as goal

pub loop-line-preserved : goal.loop-line-preserved
loop-line-preserved c =
    let lines = c.args.lines.now in
    let i = c.loop-line.line-index in
    let line = c.line-item.result in
    let lt = c.loop-line-test.true in
    record {
      handled = rw (sum_by_more (λ (line : Line). line.handled) lines i line lt, ← c.line-item.is) (c.plus.ensures.value
          ∙ ap (λ n. n + line.handled) c.loop-line.invariant.handled);
      left = rw (sum_by_more (λ (line : Line). line.left) lines i line lt, ← c.line-item.is) (c.plus-in-loop-line.ensures.value
          ∙ ap (λ n. n + line.left) c.loop-line.invariant.left);
      dead = rw (sum_by_more (λ (line : Line). line.dead) lines i line lt, ← c.line-item.is) (c.plus_wide.ensures.value
          ∙ ap (λ n. n + line.dead) c.loop-line.invariant.dead);
      handled_fits = omega (arith, c.plus.ensures.grows);
      left_fits = omega (arith, c.plus-in-loop-line.ensures.grows);
      dead_fits = omega (arith, c.plus_wide.ensures.grows);
    }
