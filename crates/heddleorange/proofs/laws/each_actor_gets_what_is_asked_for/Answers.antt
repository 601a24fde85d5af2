use Rattle.heddleorange.specs.WholeRun.{after_at, gives_at}
use Rattle.heddleorange.proofs.ArrivedLaw.{each-gets-what-is-asked-for}
use Rattle.heddleorange.proofs.laws.each_actor_gets_what_is_asked_for.Goals as goal

pub returns : goal.returns
returns g c = λ actors plan orders report.
    each-gets-what-is-asked-for (after_at actors g.A.Actor.after) (gives_at actors g.A.Actor.gives) plan orders report
