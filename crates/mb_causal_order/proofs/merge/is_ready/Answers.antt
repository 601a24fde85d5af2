use Rattle.std.proofs.Common.{◌<◌, ◌≤◌, ◌⊎◌, ap, sym, subst, ◌∙◌, length, reverse, slice_get, arith}
use Rattle.mb_journal.specs.JournalView.{first_kept}
use Rattle.mb_report.specs.declared.report.ActorReport.{ActorReport}
use Rattle.mb_causal_order.proofs.Accounted.{ready-at}
use Rattle.mb_causal_order.proofs.Unready.{caused-there, entry-there, sent-there}
use Rattle.mb_causal_order.proofs.merge.is_ready.Goals as goal

pub returns-clause-ready : goal.returns-clause-ready
returns-clause-ready c = λ who sends order accounted yes.
    let same = ap (λ (x : ActorReport). length x.journal.entries) c.index-actors-number.is in
    ready-at who sends c.args.actors.now order c.args.replay.now.cells.items c.args.replay.now.outstanding.rows.items c.args.number
    c.index-actors-number.result _ c.entries-index.result accounted c.requires.an_actor c.index-actors-number.is c.entries-index.ensures
    (let within = c.in-Some.ensures.within in omega (arith, same, within))
    (ap (λ (x : ActorReport). slice_get (reverse x.journal.entries) c.entries-index.result) c.index-actors-number.is ∙ c.in-Some.ensures.read)
    (c.is_caused.ensures.caused who sends order accounted yes c.in-Some.entry.effects.now)
    (c.is_sent.ensures.sent c.if-not-is_sent.false c.in-Some.entry.effects.now)

pub returns-clause-unready : goal.returns-clause-unready
returns-clause-unready c = λ no who sends before order accounted may.
    caused-there who sends c.args.actors.now before order c.args.replay.now.cells.items c.args.replay.now.outstanding.rows.items c.args.number
    c.index-actors-number.result c.entries-index.result accounted c.requires.an_actor c.index-actors-number.is c.entries-index.ensures may _
    (ap (λ (x : ActorReport). slice_get (reverse x.journal.entries) c.entries-index.result) c.index-actors-number.is ∙ c.in-Some.ensures.read)
    (c.is_caused.ensures.uncaused no who sends before order accounted may.fewer c.in-Some.entry.effects.now)

pub returns-then-not-is_sent-clause-unready : goal.returns-then-not-is_sent-clause-unready
returns-then-not-is_sent-clause-unready c = λ no who sends before order accounted may.
    sent-there who sends c.args.actors.now before order c.args.replay.now.cells.items c.args.replay.now.outstanding.rows.items c.args.number
    c.index-actors-number.result c.entries-index.result accounted c.requires.an_actor c.index-actors-number.is c.entries-index.ensures may _
    (ap (λ (x : ActorReport). slice_get (reverse x.journal.entries) c.entries-index.result) c.index-actors-number.is ∙ c.in-Some.ensures.read)
    (c.is_sent.ensures.unsent c.if-not-is_sent.true c.in-Some.entry.effects.now)

pub returns-in_default-clause-unready : goal.returns-in_default-clause-unready
returns-in_default-clause-unready c = λ no who sends before order accounted may.
    entry-there who sends c.args.actors.now before order c.args.replay.now.cells.items c.args.replay.now.outstanding.rows.items c.args.number
    c.index-actors-number.result c.entries-index.result accounted c.requires.an_actor c.index-actors-number.is c.entries-index.ensures may c.requires.kept
    (subst (λ (x : ActorReport). (c.entries-index.result < first_kept x.journal) ⊎ (length x.journal.entries ≤ c.entries-index.result))
    (sym c.index-actors-number.is) c.in_default.ensures.none)
