use Rattle.heddleorange.specs.WholeRun.{after_at, gives_at}
use Rattle.heddleorange.proofs.ArrivedLaw.{each-of-the-guardian-is-started, each-spawned-is-started}
use Rattle.heddleorange.proofs.laws.each_spawned_actor_is_started.Goals as goal

pub returns-clause-by_actors : goal.returns-clause-by_actors
returns-clause-by_actors g c = λ actors plan orders report.
    each-spawned-is-started (after_at actors g.A.Actor.after) (gives_at actors g.A.Actor.gives) plan orders report

pub returns-clause-by_guardian : goal.returns-clause-by_guardian
returns-clause-by_guardian g c = λ actors plan orders report.
    each-of-the-guardian-is-started (after_at actors g.A.Actor.after) (gives_at actors g.A.Actor.gives) plan orders report
