use Rattle.std.proofs.Common.{length}
use Rattle.heddleorange.specs.FromSources.{orders_given}
use Rattle.heddleorange.proofs.Chosen.{behave}
use Rattle.heddleorange.proofs.ReportsRun.{reports}
use Rattle.heddleorange.proofs.run_from.run_here_from.Goals as goal

pub run_planned_from-requires : goal.run_planned_from-requires
run_planned_from-requires g c =
    record { behaved = behave g.A.Actor.content g.A.Actor.after g.A.Actor.gives c.args.actors.items c.requires.unused }

pub returns-clause-report : goal.returns-clause-report
returns-clause-report g c =
    reports g.A.Actor.after g.A.Actor.gives c.args.plan c.args.actors.items
    (orders_given (length c.args.actors.items) c.args.sources.now c.run_planned_from.new.sources) c.run_planned_from.result c.run_planned_from.ensures.story c.run_planned_from.ensures.right

pub returns-clause-failure : goal.returns-clause-failure
returns-clause-failure g c = c.run_planned_from.ensures.failure

pub returns-clause-gave : goal.returns-clause-gave
returns-clause-gave g c = c.run_planned_from.ensures.gave

pub returns-clause-gave_all : goal.returns-clause-gave_all
returns-clause-gave_all g c = c.run_planned_from.ensures.gave_all
