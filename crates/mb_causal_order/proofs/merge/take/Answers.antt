use Rattle.std.proofs.Common.{ap, ◌∙◌, ◌++◌, ◌∷◌, [], reverse, slice_get}
use Rattle.mb_report.specs.declared.report.ActorReport.{ActorReport}
use Rattle.mb_causal_order.specs.declared.place.Place.{Place}
use Rattle.mb_causal_order.proofs.Accounted.{taken-accounted}
use Rattle.mb_causal_order.proofs.merge.take.Goals as goal

pub returns-clause-replayed : goal.returns-clause-replayed
returns-clause-replayed c = λ yes who sends accounted ready.
    taken-accounted who sends c.args.actors.now c.args.order.now.items _ c.args.replay.now.cells.items c.apply.new.self.cells.items
    c.args.replay.now.outstanding.rows.items c.apply.new.self.outstanding.rows.items c.args.number c.index-actors-number.result _
    c.entries-index.result accounted ready c.index-actors-number.is c.entries-index.ensures
    (ap (λ (x : ActorReport). slice_get (reverse x.journal.entries) c.entries-index.result) c.index-actors-number.is ∙ c.in-Some.ensures.read)
    (c.in_ok-apply.ensures c.if-not-branch.false) c.in_ok-push.ensures.items

pub returns-clause-placed : goal.returns-clause-placed
returns-clause-placed c = λ yes d.
    c.in_ok-push.ensures.items
    ∙ ap (λ n. c.args.order.now.items ++ (let made : Place = record { actor = c.args.number; index = n } in made) ∷ []) (c.entries-index.ensures d)
