use Rattle.heddleorange.specs.WholeRun.{gives_at}
use Rattle.heddleorange.proofs.GivesNoReport.{named-failure}
use Rattle.heddleorange.proofs.Sent.{orders_of}
use Rattle.heddleorange.proofs.planned_system.PlannedSystem.run_on_threads.Goals as goal

pub run_on_threads-requires-clause-unused : goal.run_on_threads-requires-clause-unused
run_on_threads-requires-clause-unused g c κs within = c.requires.unused

pub returns-in-Err-clause-failure : goal.returns-in-Err-clause-failure
returns-in-Err-clause-failure g c =
    let actors = c.args.self.actors.items in let named = c.with_names.ensures in
    named-failure (gives_at actors g.A.Actor.gives) c.args.self.plan actors (orders_of c.args.sends.now) c.args.self.names.texts.items c.in-Err.failed
    c.with_names.result named.error named.actors named.untouched named.names c.in-Err.ensures.failure
