use Rattle.heddleorange.specs.WholeRun.{after_at, gives_at}
use Rattle.heddleorange.proofs.ArrivedLaw.{guardian-is-started}
use Rattle.heddleorange.proofs.laws.the_guardian_is_started.Goals as goal

pub returns : goal.returns
returns g c = λ actors plan orders report.
    guardian-is-started (after_at actors g.A.Actor.after) (gives_at actors g.A.Actor.gives) plan orders report
