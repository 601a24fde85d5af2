use Rattle.std.proofs.Common.{sym, ap, ◌∙◌, arith, length}
use Rattle.mb_report.specs.declared.report.ActorReport.{ActorReport}
use Rattle.mb_causal_order.proofs.Accounted.{ended-at}
use Rattle.mb_causal_order.proofs.Unready.{within-at}
use Rattle.mb_causal_order.proofs.merge.is_past.Goals as goal

pub returns-clause-past : goal.returns-clause-past
returns-clause-past c = λ who sends order accounted yes within.
    ended-at who sends c.args.actors.now order c.args.replay.now.cells.items c.args.replay.now.outstanding.rows.items c.args.number
    c.index-actors-number.result c.entries.result c.len-entries.result accounted within c.index-actors-number.is c.entries.ensures
    (c.len-entries.ensures.value ∙ ap (λ (x : ActorReport). length x.journal.entries) (sym c.index-actors-number.is)) yes

pub returns-clause-within : goal.returns-clause-within
returns-clause-within c = λ no who sends order accounted.
    within-at who sends c.args.actors.now order c.args.replay.now.cells.items c.args.replay.now.outstanding.rows.items c.args.number
    c.index-actors-number.result c.entries.result c.len-entries.result accounted (omega arith) c.index-actors-number.is c.entries.ensures
    (c.len-entries.ensures.value ∙ ap (λ (x : ActorReport). length x.journal.entries) (sym c.index-actors-number.is)) no
