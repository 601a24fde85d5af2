use Rattle.heddleorange.specs.WholeRun.{after_at, gives_at}
use Rattle.heddleorange.proofs.ArrivedLaw.{each-asked-for-arrives}
use Rattle.heddleorange.proofs.laws.each_system_message_asked_for_arrives.Goals as goal

pub returns : goal.returns
returns g c = λ actors plan orders report.
    each-asked-for-arrives (after_at actors g.A.Actor.after) (gives_at actors g.A.Actor.gives) plan orders report
