use Rattle.heddleorange.specs.WholeRun.{after_at, gives_at}
use Rattle.heddleorange.proofs.AskersTold.{each-parent-is-told-again, each-that-asks-is-told}
use Rattle.heddleorange.proofs.laws.whoever_asks_to_watch_is_told.Goals as goal

pub returns-clause-told : goal.returns-clause-told
returns-clause-told g c = λ actors plan orders report.
    each-that-asks-is-told (after_at actors g.A.Actor.after) (gives_at actors g.A.Actor.gives) plan orders report

pub returns-clause-told_again : goal.returns-clause-told_again
returns-clause-told_again g c = λ actors plan orders report.
    each-parent-is-told-again (after_at actors g.A.Actor.after) (gives_at actors g.A.Actor.gives) plan orders report
