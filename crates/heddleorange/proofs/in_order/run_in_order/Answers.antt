use Rattle.heddleorange.specs.Orders.{lists_of}
use Rattle.heddleorange.proofs.Chosen.{behave}
use Rattle.heddleorange.proofs.ReportsRun.{reports-quiet}
use Rattle.heddleorange.proofs.in_order.run_in_order.Goals as goal

pub run_planned_in_order-requires : goal.run_planned_in_order-requires
run_planned_in_order-requires g c =
    record { behaved = behave g.A.Actor.content g.A.Actor.after g.A.Actor.gives c.args.actors.items c.requires.unused }

pub returns-clause-report : goal.returns-clause-report
returns-clause-report g c =
    reports-quiet g.A.Actor.after g.A.Actor.gives c.args.plan c.args.actors.items (lists_of c.args.plan.senders c.args.sends.now)
    c.run_planned_in_order.result c.run_planned_in_order.ensures.story c.run_planned_in_order.ensures.right

pub returns-clause-turns : goal.returns-clause-turns
returns-clause-turns g c = c.run_planned_in_order.ensures.turns

pub returns-clause-refused : goal.returns-clause-refused
returns-clause-refused g c = c.run_planned_in_order.ensures.refused

pub returns-clause-which : goal.returns-clause-which
returns-clause-which g c = c.run_planned_in_order.ensures.which

pub returns-clause-back : goal.returns-clause-back
returns-clause-back g c = c.run_planned_in_order.ensures.back
