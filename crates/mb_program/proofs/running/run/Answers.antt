use Rattle.std.proofs.Common.{length, map, ap, ◌∙◌, subst, sym, Vec}
use Rattle.std.proofs.lemmas.Result.{IfOk-from_err}
use Rattle.std.specs.Global.{Global}
use Rattle.mb_msg.specs.declared.order.Order.{Order}
use Rattle.heddleorange.specs.NoReport.{IsErrorOfRun}
use Rattle.heddleorange.specs.Orders.{lists_of}
use Rattle.heddleorange.specs.ReportsRun.{ReportsRun}
use Rattle.heddleorange.specs.WholeRun.{gives_at}
use Rattle.heddleorange.proofs.NoReport.{without-memory}
use Rattle.heddleorange.proofs.Sent.{err-of}
use Rattle.mb_program.proofs.Runnable.{lists-are}
use Rattle.mb_program.proofs.running.run.Goals as goal

pub returns-clause-report : goal.returns-clause-report
returns-clause-report g c =
    let plan = c.args.plan in
    let same = lists-are plan.senders c.args.sends.now _ c.requires.right.1
    (ap (map (λ (v : Vec Order Global). v.items)) c.deref.ensures.value ∙ c.in-Ok.ensures) in
    subst (λ orders. ReportsRun g.A.Actor.after g.A.Actor.gives plan c.args.actors.items orders c.in_ok-report-2.report) same
    c.in_ok-report-2.ensures.report

pub returns-clause-turns : goal.returns-clause-turns
returns-clause-turns g c = sym c.if-is_quiet.false

pub returns-clause-covers : goal.returns-clause-covers
returns-clause-covers g c = tt

pub returns-clause-fault : goal.returns-clause-fault
returns-clause-fault g c = tt

pub returns-then-is_quiet-clause-report : goal.returns-then-is_quiet-clause-report
returns-then-is_quiet-clause-report g c = c.in_ok-report.ensures.report

pub returns-then-is_quiet-clause-turns : goal.returns-then-is_quiet-clause-turns
returns-then-is_quiet-clause-turns g c = sym c.if-is_quiet.true

pub returns-then-is_quiet-clause-covers : goal.returns-then-is_quiet-clause-covers
returns-then-is_quiet-clause-covers g c = c.in_ok-report.ensures.turns.covers

pub returns-then-is_quiet-clause-fault : goal.returns-then-is_quiet-clause-fault
returns-then-is_quiet-clause-fault g c = tt

pub returns-in_err-report-clause-report : goal.returns-in_err-report-clause-report
returns-in_err-report-clause-report g c = IfOk-from_err c.from_residual.result _ c.from_residual.ensures.0

pub returns-in_err-report-clause-turns : goal.returns-in_err-report-clause-turns
returns-in_err-report-clause-turns g c = IfOk-from_err c.from_residual.result _ c.from_residual.ensures.0

pub returns-in_err-report-clause-covers : goal.returns-in_err-report-clause-covers
returns-in_err-report-clause-covers g c = IfOk-from_err c.from_residual.result _ c.from_residual.ensures.0

pub returns-in_err-report-clause-fault : goal.returns-in_err-report-clause-fault
returns-in_err-report-clause-fault g c =
    err-of (IsErrorOfRun (gives_at c.args.actors.items g.A.Actor.gives) c.args.plan (length c.args.actors.items) (lists_of c.args.plan.senders c.args.sends.now))
    c.from_residual.result c.in_err-report.field-0.0 c.from_residual.ensures.1 c.in_err-report.ensures.refused

pub returns-in_err-report-2-clause-report : goal.returns-in_err-report-2-clause-report
returns-in_err-report-2-clause-report g c =
    IfOk-from_err c.from_residual-in_err-report-2.result _ c.from_residual-in_err-report-2.ensures.0

pub returns-in_err-report-2-clause-turns : goal.returns-in_err-report-2-clause-turns
returns-in_err-report-2-clause-turns g c =
    IfOk-from_err c.from_residual-in_err-report-2.result _ c.from_residual-in_err-report-2.ensures.0

pub returns-in_err-report-2-clause-covers : goal.returns-in_err-report-2-clause-covers
returns-in_err-report-2-clause-covers g c =
    IfOk-from_err c.from_residual-in_err-report-2.result _ c.from_residual-in_err-report-2.ensures.0

pub returns-in_err-report-2-clause-fault : goal.returns-in_err-report-2-clause-fault
returns-in_err-report-2-clause-fault g c =
    let actors = c.args.actors.items in let plan = c.args.plan in let error = c.in_err-report-2.field-0.0 in
    let gives = gives_at actors g.A.Actor.gives in
    let same = lists-are plan.senders c.args.sends.now _ c.requires.right.1
    (ap (map (λ (v : Vec Order Global). v.items)) c.deref.ensures.value ∙ c.in-Ok.ensures) in
    err-of (IsErrorOfRun gives plan (length actors) (lists_of plan.senders c.args.sends.now)) c.from_residual-in_err-report-2.result error
    c.from_residual-in_err-report-2.ensures.1
    (subst (λ orders. IsErrorOfRun gives plan (length actors) orders error) same c.in_err-report-2.ensures.failure.refused)

pub returns-in_default-clause-report : goal.returns-in_default-clause-report
returns-in_default-clause-report g c = tt

pub returns-in_default-clause-turns : goal.returns-in_default-clause-turns
returns-in_default-clause-turns g c = tt

pub returns-in_default-clause-covers : goal.returns-in_default-clause-covers
returns-in_default-clause-covers g c = tt

pub returns-in_default-clause-fault : goal.returns-in_default-clause-fault
returns-in_default-clause-fault g c =
    without-memory (gives_at c.args.actors.items g.A.Actor.gives) c.args.plan (length c.args.actors.items)
    (lists_of c.args.plan.senders c.args.sends.now) c.without_actors.result c.requires.right
    (c.without_actors.ensures.error, c.without_actors.ensures.actors)
