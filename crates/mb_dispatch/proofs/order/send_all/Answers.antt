use Rattle.std.proofs.Common.{refl, subst, sym, ◌∙◌}
use Rattle.std.specs.Prelude.{IfErr}
use Rattle.std.proofs.lemmas.List.{take_all, take_more}
use Rattle.std.proofs.lemmas.List.Elements.{Contains-get_or}
use Rattle.std.proofs.lemmas.Result.{err_from_is_err_and}
use Rattle.mb_gate.specs.Accessors.{actors_of}
use Rattle.mb_system.specs.Members.{sender_caller}
use Rattle.mb_dispatch.specs.Faults.{BreaksSending, StopsFor}
use Rattle.mb_dispatch.specs.Orders.{HasSent}
use Rattle.mb_dispatch.proofs.Breaking.{breaks-many}
use Rattle.mb_register.proofs.CallerLemmas.{account-none, account-then}
use Rattle.mb_register.proofs.ClaimCounts.{loses-none, loses-then}
use Rattle.mb_system.proofs.Obligations.{obligations-same, obligations-then}
use Rattle.mb_dispatch.proofs.Sending.{sent-none, sent-then, stops-for, stops-within}
use Rattle.mb_dispatch.proofs.Sides.{on_err}
use Rattle.mb_dispatch.proofs.order.send_all.Goals as goal

pub loop-order-init : goal.loop-order-init
loop-order-init g c =
    let first = c.args.sender.now in let caller = sender_caller first.registrar in (
      c.requires.same_gates,
      sent-none first,
      obligations-same (actors_of c.args.system.now.gates) caller caller refl refl,
      account-none caller.account,
      loses-none caller.account caller.view,
    )

pub loop-order-preserved : goal.loop-order-preserved
loop-order-preserved g c =
    let at = c.loop-order in let one = c.in_ok-send_often.ensures.done in (
      c.send_often.ensures.keeps.same_gates,
      subst (λ xs. HasSent xs c.args.sender.now c.send_often.new.sender)
          (sym (take_more c.args.orders.now at.order-index _ c.loop-order-test.true))
          (sent-then _ _ _ _ _ at.invariant.1 one.sent),
      obligations-then (actors_of c.args.system.now.gates) (sender_caller c.args.sender.now.registrar) (sender_caller at.sender.registrar)
          (sender_caller c.send_often.new.sender.registrar) at.invariant.2 one.obligations,
      account-then _ _ _ at.invariant.3 c.send_often.ensures.keeps.owed,
      loses-then _ _ _ _ _ _ at.invariant.4 c.send_often.ensures.keeps.claims,
    )

pub returns-clause-keeps : goal.returns-clause-keeps
returns-clause-keeps g c = record {
  same_gates = c.loop-order.invariant.0;
  same_sender = c.loop-order.invariant.1.by;
  owed = c.loop-order.invariant.3;
  claims = c.loop-order.invariant.4;
}

pub returns-clause-fault : goal.returns-clause-fault
returns-clause-fault g c = tt

pub returns-in_err-send_often-clause-keeps : goal.returns-in_err-send_often-clause-keeps
returns-in_err-send_often-clause-keeps g c = record {
  same_gates = c.send_often.ensures.keeps.same_gates;
  same_sender = c.send_often.ensures.keeps.same_sender ∙ c.loop-order.invariant.1.by;
  owed = account-then _ _ _ c.loop-order.invariant.3 c.send_often.ensures.keeps.owed;
  claims = loses-then _ _ _ _ _ _ c.loop-order.invariant.4 c.send_often.ensures.keeps.claims;
}

pub returns-in_err-send_often-clause-fault : goal.returns-in_err-send_often-clause-fault
returns-in_err-send_often-clause-fault g c =
    let gates = c.args.system.now.gates in let orders = c.args.orders.now in
    let p = err_from_is_err_and c.from_residual.result c.from_residual.ensures.1 in
    let there = Contains-get_or orders c.loop-order.order-index _ c.loop-order-test.true in
    subst (λ r. IfErr r (BreaksSending gates orders)) (sym p.1)
    (subst (BreaksSending gates orders) (sym p.2) (breaks-many gates orders _ c.in_err-send_often.field-0.0 there c.in_err-send_often.ensures.fault))

pub returns-clause-reason : goal.returns-clause-reason
returns-clause-reason g c = tt

pub returns-in_err-send_often-clause-reason : goal.returns-in_err-send_often-clause-reason
returns-in_err-send_often-clause-reason g c =
    let gates = c.args.system.now.gates in let at = c.loop-order in
    let reason = StopsFor gates c.args.orders.now c.args.sender.now c.send_often.new.sender in
    let p = err_from_is_err_and c.from_residual.result c.from_residual.ensures.1 in
    subst (λ r. IfErr r reason) (sym p.1)
    (subst reason (sym p.2)
    (stops-for c.args.orders.now at.order-index _ c.args.sender.now at.sender c.send_often.new.sender c.loop-order-test.true at.invariant.1
    c.in_err-send_often.ensures.stopped gates c.in_err-send_often.field-0.0 c.in_err-send_often.ensures.reason))

pub returns-in_err-send_often-clause-stopped : goal.returns-in_err-send_often-clause-stopped
returns-in_err-send_often-clause-stopped g c =
    let at = c.loop-order in
    on_err c.from_residual.result
    (stops-within c.args.orders.now at.order-index _ c.args.sender.now at.sender c.send_often.new.sender c.loop-order-test.true at.invariant.1
    c.in_err-send_often.ensures.stopped)

pub returns-clause-done : goal.returns-clause-done
returns-clause-done g c = record {
  sent =
      subst (λ xs. HasSent xs c.args.sender.now c.loop-order.sender) (take_all _ _ c.loop-order-test.false) c.loop-order.invariant.1;
  obligations = c.loop-order.invariant.2;
}
