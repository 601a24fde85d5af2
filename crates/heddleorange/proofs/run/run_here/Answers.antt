use Rattle.heddleorange.proofs.Chosen.{behave}
use Rattle.heddleorange.proofs.ReportsRun.{reports}
use Rattle.heddleorange.proofs.Sent.{orders_of}
use Rattle.heddleorange.proofs.run.run_here.Goals as goal

pub run_planned-requires : goal.run_planned-requires
run_planned-requires g c =
    record { behaved = behave g.A.Actor.content g.A.Actor.after g.A.Actor.gives c.args.actors.items c.requires.unused }

pub returns-clause-report : goal.returns-clause-report
returns-clause-report g c =
    reports g.A.Actor.after g.A.Actor.gives c.args.plan c.args.actors.items (orders_of c.args.sends.now) c.run_planned.result c.run_planned.ensures.story
    c.run_planned.ensures.right

pub returns-clause-failure : goal.returns-clause-failure
returns-clause-failure g c = c.run_planned.ensures.failure
