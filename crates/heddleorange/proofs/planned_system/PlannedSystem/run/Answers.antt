use Rattle.heddleorange.proofs.Conserved.{named-conserved-of}
use Rattle.heddleorange.proofs.Sent.{orders_of}
use Rattle.heddleorange.proofs.planned_system.PlannedSystem.run.Goals as goal

pub returns-then-workers-eq1 : goal.returns-then-workers-eq1
returns-then-workers-eq1 g c = record {
  report = c.run_here.ensures.report;
  failure = c.run_here.ensures.failure;
  names = c.run_here.ensures.names;
  conserved = λ worth holdings notice conserve.
      named-conserved-of g.A.Actor.after g.A.Actor.gives worth holdings c.args.self.actors.items c.args.self.plan (orders_of c.args.sends.now) c.run_here.result
      notice conserve c.run_here.ensures.report;
}

pub returns-else-workers-eq1 : goal.returns-else-workers-eq1
returns-else-workers-eq1 g c = record {
  report = c.run_on_threads.ensures.report;
  failure = c.run_on_threads.ensures.failure;
  names = c.run_on_threads.ensures.names;
  conserved = λ worth holdings notice conserve.
      named-conserved-of g.A.Actor.after g.A.Actor.gives worth holdings c.args.self.actors.items c.args.self.plan (orders_of c.args.sends.now) c.run_on_threads.result
      notice conserve c.run_on_threads.ensures.report;
}
