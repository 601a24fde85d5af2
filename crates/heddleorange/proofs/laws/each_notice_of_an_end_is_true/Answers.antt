use Rattle.heddleorange.specs.WholeRun.{after_at, gives_at}
use Rattle.heddleorange.proofs.ArrivedLaw.{each-terminated-is-true}
use Rattle.heddleorange.proofs.laws.each_notice_of_an_end_is_true.Goals as goal

pub returns-clause-notices : goal.returns-clause-notices
returns-clause-notices g c = λ actors plan orders report story. story.notices

pub returns-clause-terminated : goal.returns-clause-terminated
returns-clause-terminated g c = λ actors plan orders report.
    each-terminated-is-true (after_at actors g.A.Actor.after) (gives_at actors g.A.Actor.gives) plan orders report
