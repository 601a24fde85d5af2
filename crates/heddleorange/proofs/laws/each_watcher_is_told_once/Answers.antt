use Rattle.heddleorange.specs.WholeRun.{after_at, gives_at}
use Rattle.heddleorange.proofs.ArrivedLaw.{each-terminated-is-asked-for, each-watcher-is-told}
use Rattle.heddleorange.proofs.laws.each_watcher_is_told_once.Goals as goal

pub returns-clause-told : goal.returns-clause-told
returns-clause-told g c = λ actors plan orders report.
    each-watcher-is-told (after_at actors g.A.Actor.after) (gives_at actors g.A.Actor.gives) plan orders report

pub returns-clause-asked_for : goal.returns-clause-asked_for
returns-clause-asked_for g c = λ actors plan orders report.
    each-terminated-is-asked-for (after_at actors g.A.Actor.after) (gives_at actors g.A.Actor.gives) plan orders report
