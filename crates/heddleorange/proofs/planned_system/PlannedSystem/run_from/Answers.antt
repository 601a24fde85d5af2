use Rattle.std.proofs.Common.{length}
use Rattle.heddleorange.specs.FromSources.{orders_given}
use Rattle.heddleorange.specs.WholeRun.{gives_at}
use Rattle.heddleorange.proofs.Conserved.{conserved}
use Rattle.heddleorange.proofs.GivesNoReport.{named-failure}
use Rattle.heddleorange.proofs.planned_system.PlannedSystem.run_from.Goals as goal

pub returns-in-Ok-clause-conserved : goal.returns-in-Ok-clause-conserved
returns-in-Ok-clause-conserved g c = λ worth holdings notice conserve.
    (let actors = c.args.self.actors.items in let told = c.in-Ok.ensures.report in
    conserved g.A.Actor.after g.A.Actor.gives worth notice c.in-Ok.report actors c.args.self.plan
    (orders_given (length actors) c.args.sources.now c.run_here_from.new.sources) told.right told.story holdings conserve)

pub returns-in-Err-clause-failure : goal.returns-in-Err-clause-failure
returns-in-Err-clause-failure g c =
    let actors = c.args.self.actors.items in let named = c.with_names.ensures in
    named-failure (gives_at actors g.A.Actor.gives) c.args.self.plan actors (orders_given (length actors) c.args.sources.now c.run_here_from.new.sources)
    c.args.self.names.texts.items c.in-Err.failed c.with_names.result named.error named.actors named.untouched named.names c.in-Err.ensures.failure

pub returns-in-Ok-run_on_threads_from-clause-conserved : goal.returns-in-Ok-run_on_threads_from-clause-conserved
returns-in-Ok-run_on_threads_from-clause-conserved g c = λ worth holdings notice conserve.
    (let actors = c.args.self.actors.items in let told = c.in-Ok-run_on_threads_from.ensures.report in
    conserved g.A.Actor.after g.A.Actor.gives worth notice c.in-Ok-run_on_threads_from.report actors c.args.self.plan
    (orders_given (length actors) c.args.sources.now c.run_on_threads_from.new.sources) told.right told.story holdings conserve)

pub returns-in-Err-run_on_threads_from-clause-failure : goal.returns-in-Err-run_on_threads_from-clause-failure
returns-in-Err-run_on_threads_from-clause-failure g c =
    let actors = c.args.self.actors.items in let named = c.with_names-in-Err-run_on_threads_from.ensures in
    named-failure (gives_at actors g.A.Actor.gives) c.args.self.plan actors (orders_given (length actors) c.args.sources.now c.run_on_threads_from.new.sources)
    c.args.self.names.texts.items c.in-Err-run_on_threads_from.failed c.with_names-in-Err-run_on_threads_from.result named.error named.actors named.untouched
    named.names c.in-Err-run_on_threads_from.ensures.failure
