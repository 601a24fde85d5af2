use Rattle.std.proofs.Common.{length}
use Rattle.heddleorange.specs.FromSources.{orders_given}
use Rattle.heddleorange.proofs.Chosen.{behave}
use Rattle.heddleorange.proofs.ReportsRun.{reports}
use Rattle.heddleorange.proofs.run_from.run_on_threads_from.Goals as goal

pub run_planned_on_threads_from-requires-clause-behaved : goal.run_planned_on_threads_from-requires-clause-behaved
run_planned_on_threads_from-requires-clause-behaved g c κs within =
    behave g.A.Actor.content g.A.Actor.after g.A.Actor.gives c.args.actors.items c.requires.unused

pub returns-clause-report : goal.returns-clause-report
returns-clause-report g c =
    reports g.A.Actor.after g.A.Actor.gives c.args.plan c.args.actors.items
    (orders_given (length c.args.actors.items) c.args.sources.now c.run_planned_on_threads_from.new.sources) c.run_planned_on_threads_from.result c.run_planned_on_threads_from.ensures.story c.run_planned_on_threads_from.ensures.right

pub returns-clause-failure : goal.returns-clause-failure
returns-clause-failure g c = c.run_planned_on_threads_from.ensures.failure

pub returns-clause-gave : goal.returns-clause-gave
returns-clause-gave g c = c.run_planned_on_threads_from.ensures.gave

pub returns-clause-gave_all : goal.returns-clause-gave_all
returns-clause-gave_all g c = c.run_planned_on_threads_from.ensures.gave_all
