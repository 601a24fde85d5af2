use Rattle.std.proofs.Common.{◌∙◌, ◌∷◌, [], Err, ap, subst, sym}
use Rattle.mb_gate.specs.Accessors.{actors_of}
use Rattle.mb_register.proofs.CallerLemmas.{account-registered}
use Rattle.mb_dispatch.specs.Faults.{BreaksSending, IsRefusedFor, IsToNobody}
use Rattle.mb_system.specs.RunErrors.{of_send}
use Rattle.mb_system.proofs.RunErrors.{on-error}
use Rattle.mb_system.proofs.Senders.{sender-same, sender-still}
use Rattle.mb_dispatch.proofs.Breaking.{breaks-one, nobody-of-send, refused-for, send-is-not-full, to-nobody}
use Rattle.mb_msg.specs.declared.order.OrderKind.{OrderKind}
use Rattle.mb_msg.specs.declared.order.OrderKind.TheVariants.{Stop, Tell}
use Rattle.mb_dispatch.specs.Orders.{HasSent, order_for}
use Rattle.mb_dispatch.proofs.Sending.{obligations-stopped, obligations-told, sent-none, sent-nothing, sent-stopped, sent-told}
use Rattle.mb_dispatch.proofs.Sides.{on_err}
use Rattle.mb_dispatch.proofs.order.send.Goals as goal

pub tell-requires-clause-same_gates : goal.tell-requires-clause-same_gates
tell-requires-clause-same_gates g c = (c.requires.same_gates.same_gates.0, c.requires.same_gates.same_gates.1)

pub tell-requires-clause-all : goal.tell-requires-clause-all
tell-requires-clause-all g c = (c.requires.same_gates.all, c.requires.same_gates.same_gates.2)

pub stop-requires-clause-same_gates : goal.stop-requires-clause-same_gates
stop-requires-clause-same_gates g c = (c.requires.same_gates.same_gates.0, c.requires.same_gates.same_gates.1)

pub stop-requires-clause-all : goal.stop-requires-clause-all
stop-requires-clause-all g c = (c.requires.same_gates.all, c.requires.same_gates.same_gates.2)

pub returns-in_err-tell-in-Tell-clause-fault : goal.returns-in_err-tell-in-Tell-clause-fault
returns-in_err-tell-in-Tell-clause-fault g c =
    let gates = c.args.system.now.gates in let error = c.in_err-tell-in-Tell.field-0.0 in let to = c.args.to in let what = c.args.what in
    on-error c.from_residual.result (BreaksSending gates (order_for to what 1 ∷ [])) (of_send error) c.from_residual.ensures.1
    (breaks-one gates to what (of_send error)
    (λ unknown. subst (λ what. IsToNobody gates to what) (sym c.in-Tell.is)
    (to-nobody _ _ _ c.tell.result c.tell.ensures.fails.refused (λ memory. memory.0) (c.in_err-tell-in-Tell.was ∙ ap Err (nobody-of-send error unknown))))
    (send-is-not-full error))

pub returns-in_err-stop-in-Stop-clause-fault : goal.returns-in_err-stop-in-Stop-clause-fault
returns-in_err-stop-in-Stop-clause-fault g c =
    let gates = c.args.system.now.gates in let error = c.in_err-stop-in-Stop.field-0.0 in let to = c.args.to in let what = c.args.what in
    let passed = c.from_residual-in_err-stop-in-Stop in
    on-error passed.result (BreaksSending gates (order_for to what 1 ∷ [])) (of_send error) passed.ensures.1
    (breaks-one gates to what (of_send error)
    (λ unknown. subst (λ what. IsToNobody gates to what) (sym c.in-Stop.is)
    (to-nobody _ _ _ c.stop.result c.stop.ensures.refused (λ memory. memory.0) (c.in_err-stop-in-Stop.was ∙ ap Err (nobody-of-send error unknown))))
    (send-is-not-full error))

pub returns-in_err-tell-in-Tell-clause-reason : goal.returns-in_err-tell-in-Tell-clause-reason
returns-in_err-tell-in-Tell-clause-reason g c =
    let gates = c.args.system.now.gates in let error = c.in_err-tell-in-Tell.field-0.0 in let to = c.args.to in
    on-error c.from_residual.result (IsRefusedFor gates to c.args.what) (of_send error) c.from_residual.ensures.1
    (subst (λ what. IsRefusedFor gates to what (of_send error)) (sym c.in-Tell.is)
    (refused-for gates to (Tell c.in-Tell.payload) _ _ c.tell.result c.tell.ensures.fails.refused (λ memory. memory.0) (λ memory. (memory.1, memory.2)) error
    c.in_err-tell-in-Tell.was))

pub returns-in_err-stop-in-Stop-clause-reason : goal.returns-in_err-stop-in-Stop-clause-reason
returns-in_err-stop-in-Stop-clause-reason g c =
    let gates = c.args.system.now.gates in let error = c.in_err-stop-in-Stop.field-0.0 in let to = c.args.to in
    let passed = c.from_residual-in_err-stop-in-Stop in
    on-error passed.result (IsRefusedFor gates to c.args.what) (of_send error) passed.ensures.1
    (subst (λ what. IsRefusedFor gates to what (of_send error)) (sym c.in-Stop.is)
    (refused-for gates to Stop _ _ c.stop.result c.stop.ensures.refused (λ memory. memory.0) (λ memory. memory.1) error c.in_err-stop-in-Stop.was))

pub returns-in_ok-tell-in-Tell-clause-reason : goal.returns-in_ok-tell-in-Tell-clause-reason
returns-in_ok-tell-in-Tell-clause-reason g c = tt

pub returns-in_ok-stop-in-Stop-clause-reason : goal.returns-in_ok-stop-in-Stop-clause-reason
returns-in_ok-stop-in-Stop-clause-reason g c = tt

pub returns-in_ok-tell-in-Tell-clause-done : goal.returns-in_ok-tell-in-Tell-clause-done
returns-in_ok-tell-in-Tell-clause-done g c = record {
  sent =
      let to = c.args.to in let old = c.args.sender.now in let new = c.tell.new.self in
      subst (λ (what : OrderKind). HasSent (order_for to what 1 ∷ []) old new) (sym c.in-Tell.is)
      (sent-told to c.in-Tell.payload _ old new c.tell.ensures.leaves.same.0 c.tell.ensures.leaves.keeps c.in_ok-tell-in-Tell.ensures.told);
  obligations =
      obligations-told (actors_of c.args.system.now.gates) c.args.to c.args.sender.now c.tell.new.self c.in_ok-tell-in-Tell.ensures.discharged c.tell.ensures.leaves.still _ _
      c.in_ok-tell-in-Tell.ensures.told;
}

pub returns-in_ok-stop-in-Stop-clause-done : goal.returns-in_ok-stop-in-Stop-clause-done
returns-in_ok-stop-in-Stop-clause-done g c = record {
  sent =
      let to = c.args.to in let old = c.args.sender.now in let new = c.stop.new.self in
      subst (λ (what : OrderKind). HasSent (order_for to what 1 ∷ []) old new) (sym c.in-Stop.is)
      (sent-stopped to _ old new c.stop.ensures.same.0 c.in_ok-stop-in-Stop.ensures.stopped);
  obligations =
      obligations-stopped (actors_of c.args.system.now.gates) c.args.to c.args.sender.now c.stop.new.self c.in_ok-stop-in-Stop.ensures.discharged
      c.stop.ensures.leaves.still _ c.in_ok-stop-in-Stop.ensures.stopped;
}

pub returns-in_ok-tell-in-Tell-clause-keeps : goal.returns-in_ok-tell-in-Tell-clause-keeps
returns-in_ok-tell-in-Tell-clause-keeps g c = record {
  same_gates =
      sender-still _ _ _ c.requires.same_gates c.tell.ensures.leaves.same_gates.0 c.tell.ensures.leaves.same_gates.1 c.tell.ensures.leaves.same.1 c.tell.ensures.leaves.queues;
  same_sender = c.tell.ensures.leaves.same.0;
  owed = account-registered _ _ _ c.tell.ensures.leaves.registered.0 c.tell.ensures.leaves.registered.1;
  claims = c.tell.ensures.leaves.handed;
}

pub returns-in_err-tell-in-Tell-clause-keeps : goal.returns-in_err-tell-in-Tell-clause-keeps
returns-in_err-tell-in-Tell-clause-keeps g c = record {
  same_gates =
      sender-still _ _ _ c.requires.same_gates c.tell.ensures.leaves.same_gates.0 c.tell.ensures.leaves.same_gates.1 c.tell.ensures.leaves.same.1 c.tell.ensures.leaves.queues;
  same_sender = c.tell.ensures.leaves.same.0;
  owed = account-registered _ _ _ c.tell.ensures.leaves.registered.0 c.tell.ensures.leaves.registered.1;
  claims = c.tell.ensures.leaves.handed;
}

pub returns-in_ok-stop-in-Stop-clause-keeps : goal.returns-in_ok-stop-in-Stop-clause-keeps
returns-in_ok-stop-in-Stop-clause-keeps g c = record {
  same_gates =
      sender-same _ _ _ c.requires.same_gates c.stop.ensures.leaves.same_gates.0 c.stop.ensures.leaves.same_gates.1 c.stop.ensures.same.1;
  same_sender = ap (λ send_log. send_log.by) c.stop.ensures.same.0;
  owed = account-registered _ _ _ c.stop.ensures.leaves.registered.0 c.stop.ensures.leaves.registered.1;
  claims = c.stop.ensures.leaves.handed;
}

pub returns-in_err-stop-in-Stop-clause-keeps : goal.returns-in_err-stop-in-Stop-clause-keeps
returns-in_err-stop-in-Stop-clause-keeps g c = record {
  same_gates =
      sender-same _ _ _ c.requires.same_gates c.stop.ensures.leaves.same_gates.0 c.stop.ensures.leaves.same_gates.1 c.stop.ensures.same.1;
  same_sender = ap (λ send_log. send_log.by) c.stop.ensures.same.0;
  owed = account-registered _ _ _ c.stop.ensures.leaves.registered.0 c.stop.ensures.leaves.registered.1;
  claims = c.stop.ensures.leaves.handed;
}

pub returns-in_ok-tell-in-Tell-clause-fault : goal.returns-in_ok-tell-in-Tell-clause-fault
returns-in_ok-tell-in-Tell-clause-fault g c = tt

pub returns-in_ok-stop-in-Stop-clause-fault : goal.returns-in_ok-stop-in-Stop-clause-fault
returns-in_ok-stop-in-Stop-clause-fault g c = tt

pub returns-in_err-tell-in-Tell-clause-unsent : goal.returns-in_err-tell-in-Tell-clause-unsent
returns-in_err-tell-in-Tell-clause-unsent g c =
    on_err c.from_residual.result
    (sent-nothing c.args.to c.args.sender.now c.tell.new.self c.tell.result c.in_err-tell-in-Tell.field-0.0 c.in_err-tell-in-Tell.was
    c.tell.ensures.fails.unknown c.tell.ensures.fails.unsent)

pub returns-in_err-stop-in-Stop-clause-unsent : goal.returns-in_err-stop-in-Stop-clause-unsent
returns-in_err-stop-in-Stop-clause-unsent g c =
    let old = c.args.sender.now in
    on_err c.from_residual-in_err-stop-in-Stop.result (subst (λ s. HasSent [] old s) (sym c.in_err-stop-in-Stop.ensures.refused.0) (sent-none old))
