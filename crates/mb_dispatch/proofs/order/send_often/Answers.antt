use Rattle.std.proofs.Common.{◌≡◌, refl, ◌∙◌, ◌∷◌, [], arith, subst, sym}
use Rattle.mb_gate.specs.Accessors.{actors_of}
use Rattle.mb_system.specs.Members.{sender_caller}
use Rattle.mb_register.proofs.CallerLemmas.{account-none, account-then}
use Rattle.mb_register.proofs.ClaimCounts.{loses-none, loses-then}
use Rattle.mb_system.proofs.Obligations.{obligations-same, obligations-then}
use Rattle.mb_dispatch.proofs.Sending.{sent-again, sent-never, sent-then}
use Rattle.mb_dispatch.proofs.Sides.{on_err}
use Rattle.std.specs.Prelude.{IfErr}
use Rattle.std.proofs.lemmas.Result.{err_from_is_err_and}
use Rattle.mb_dispatch.specs.Faults.{BreaksSending, IsRefusedFor}
use Rattle.mb_dispatch.specs.Orders.{HasSent, HasSentUpTo, order_for}
use Rattle.mb_dispatch.proofs.Breaking.{breaks-often}
use Rattle.mb_dispatch.proofs.order.send_often.Goals as goal

pub loop-init : goal.loop-init
loop-init g c =
    let first = c.args.sender.now in let caller = sender_caller first.registrar in (
      c.requires.same_gates,
      sent-never c.args.order.to c.args.order.what first,
      obligations-same (actors_of c.args.system.now.gates) caller caller refl refl,
      account-none caller.account,
      loses-none caller.account caller.view,
    )

pub loop-preserved : goal.loop-preserved
loop-preserved g c =
    let one = c.in_ok-send.ensures.done in (
      c.send.ensures.keeps.same_gates,
      sent-again c.args.order.to c.args.order.what c.loop.counter c.args.sender.now c.loop.sender c.send.new.sender c.loop.invariant.1 one.sent,
      obligations-then (actors_of c.args.system.now.gates) (sender_caller c.args.sender.now.registrar) (sender_caller c.loop.sender.registrar)
          (sender_caller c.send.new.sender.registrar) c.loop.invariant.2 one.obligations,
      account-then _ _ _ c.loop.invariant.3 c.send.ensures.keeps.owed,
      loses-then _ _ _ _ _ _ c.loop.invariant.4 c.send.ensures.keeps.claims,
    )

pub returns-clause-keeps : goal.returns-clause-keeps
returns-clause-keeps g c = record {
  same_gates = c.loop.invariant.0;
  same_sender = c.loop.invariant.1.by;
  owed = c.loop.invariant.3;
  claims = c.loop.invariant.4;
}

pub returns-clause-done : goal.returns-clause-done
returns-clause-done g c = record {
  sent =
      let order = c.args.order in
      let all : c.loop.counter ≡ order.times = omega (arith, c.loop-test.false, c.loop.auto.counter-end) in
      subst (λ n. HasSent (order_for order.to order.what n ∷ []) c.args.sender.now c.loop.sender) all c.loop.invariant.1;
  obligations = c.loop.invariant.2;
}

pub returns-clause-fault : goal.returns-clause-fault
returns-clause-fault g c = tt

pub returns-in_err-send-clause-keeps : goal.returns-in_err-send-clause-keeps
returns-in_err-send-clause-keeps g c = record {
  same_gates = c.send.ensures.keeps.same_gates;
  same_sender = c.send.ensures.keeps.same_sender ∙ c.loop.invariant.1.by;
  owed = account-then _ _ _ c.loop.invariant.3 c.send.ensures.keeps.owed;
  claims = loses-then _ _ _ _ _ _ c.loop.invariant.4 c.send.ensures.keeps.claims;
}

pub returns-in_err-send-clause-fault : goal.returns-in_err-send-clause-fault
returns-in_err-send-clause-fault g c =
    let gates = c.args.system.now.gates in let breaks = BreaksSending gates (c.args.order ∷ []) in
    let p = err_from_is_err_and c.from_residual.result c.from_residual.ensures.1 in let more = c.loop-test.true in
    subst (λ r. IfErr r breaks) (sym p.1)
    (subst breaks (sym p.2) (breaks-often gates c.args.order _ (omega (arith, more)) c.in_err-send.ensures.fault))

pub returns-clause-reason : goal.returns-clause-reason
returns-clause-reason g c = tt

pub returns-in_err-send-clause-reason : goal.returns-in_err-send-clause-reason
returns-in_err-send-clause-reason g c =
    let reason = IsRefusedFor c.args.system.now.gates c.args.order.to c.args.order.what in
    let p = err_from_is_err_and c.from_residual.result c.from_residual.ensures.1 in
    subst (λ r. IfErr r reason) (sym p.1) (subst reason (sym p.2) c.in_err-send.ensures.reason)

pub returns-in_err-send-clause-stopped : goal.returns-in_err-send-clause-stopped
returns-in_err-send-clause-stopped g c =
    let order = c.args.order in let more = c.loop-test.true in
    let part : HasSentUpTo [] order c.args.sender.now c.send.new.sender = record {
      times = c.loop.counter;
      fewer = omega (arith, more);
      sent = sent-then (order_for order.to order.what c.loop.counter ∷ []) [] c.args.sender.now c.loop.sender c.send.new.sender c.loop.invariant.1
          c.in_err-send.ensures.unsent;
    } in
    on_err c.from_residual.result part
