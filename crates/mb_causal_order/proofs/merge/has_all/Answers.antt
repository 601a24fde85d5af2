use Rattle.std.proofs.Common.{◌<◌, sym, ap, ◌∙◌, length, arith}
use Rattle.mb_report.specs.declared.report.ActorReport.{ActorReport}
use Rattle.mb_causal_order.proofs.Accounted.{all-more}
use Rattle.mb_causal_order.proofs.NoCell.{no_cell}
use Rattle.mb_causal_order.proofs.Order.{journal-at}
use Rattle.mb_causal_order.proofs.merge.has_all.Goals as goal

pub loop-number-preserved : goal.loop-number-preserved
loop-number-preserved c =
    all-more c.args.actors.now c.args.replay.now.cells.items c.loop-number.number c.entries.result c.index-actors-number.result (omega arith)
    c.index-actors-number.is c.entries.ensures
    (c.if-entries-len.false ∙ (c.len.ensures.value ∙ ap (λ (x : ActorReport). length x.journal.entries) (sym c.index-actors-number.is)))
    c.loop-number.invariant

pub returns-then-entries-len-clause-some_left : goal.returns-then-entries-len-clause-some_left
returns-then-entries-len-clause-some_left c = λ no all.
    let actors = c.args.actors.now in
    let inside : c.loop-number.number < length actors = omega arith in
    c.if-entries-len.true (c.entries.ensures no_cell ∙ (all c.loop-number.number no_cell inside
    ∙ (ap length (journal-at actors c.loop-number.number c.index-actors-number.result inside c.index-actors-number.is)
    ∙ sym (c.len.ensures.value ∙ ap (λ (x : ActorReport). length x.journal.entries) (sym c.index-actors-number.is)))))
