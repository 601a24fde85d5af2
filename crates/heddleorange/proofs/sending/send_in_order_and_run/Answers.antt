use Rattle.std.proofs.Common.{◌<◌, ◌∙◌, ap, inl, inr, length, refl, subst, sym}
use Rattle.std.specs.Prelude.{All}
use Rattle.std.specs.Vec.{with_items}
use Rattle.std.proofs.lemmas.List.{with_items_is}
use Rattle.std.proofs.lemmas.Result.{on_ok_weaker}
use Rattle.mb_system.specs.Members.{IsSenderOf}
use Rattle.mb_system.specs.Obligations.{OwesNobody}
use Rattle.heddleorange.specs.Orders.{lists_of}
use Rattle.heddleorange.specs.BrokenOff.{BreaksInOrder, BreaksRow}
use Rattle.heddleorange.specs.Sent.{HaveSent}
use Rattle.heddleorange.proofs.InOrder.{length-lists, many-from}
use Rattle.heddleorange.proofs.PassedOn.{none-of-err}
use Rattle.heddleorange.proofs.Sent.{err-of, err-weaker, ok-each}
use Rattle.heddleorange.proofs.SentAndRun.{sent-and-run}
use Rattle.heddleorange.proofs.sending.send_in_order_and_run.Goals as goal

pub send_in_order-requires : goal.send_in_order-requires
send_in_order-requires g c =
    let system = c.args.built.now.system in let is = sym c.deref_mut.ensures.value in record {
      same_gates = subst (All (λ s. IsSenderOf system.gates s)) is c.requires.together.senders;
      owes_nobody = subst (All (OwesNobody system.gates)) is c.requires.owes_nobody;
      from = subst (λ l. All (λ s. s.from < length l) c.args.sends.now) is c.requires.from;
    }

pub run_first-requires : goal.run_first-requires
run_first-requires g c =
    let old = c.args.built.now.senders in let now = c.send_in_order.new.senders in
    record {
      same_gates = c.requires.together.handles;
      senders =
          subst (All (λ s. IsSenderOf c.args.built.now.system.gates s))
          (sym (with_items_is old now (c.send_in_order.auto.senders ∙ ap length c.deref_mut.ensures.value ∙ sym old.ok.0))) c.in_ok-send_in_order.ensures.same_gates;
      not_empty = c.requires.not_empty;
    }

pub returns-clause-same_system : goal.returns-clause-same_system
returns-clause-same_system g c =
    let same = c.run_first.ensures.same_system in record { system = same.system; handles = same.handles; same_gates = same.same_gates }

pub returns-clause-ran : goal.returns-clause-ran
returns-clause-ran g c =
    let old = c.args.built.now in let now = c.send_in_order.new.senders in let went = c.in_ok-send_in_order.ensures in let ran = c.run_first.ensures in
    let senders = length old.senders.items in let sends = c.args.sends.now in let orders = lists_of senders sends in
    let sent = subst (λ l. HaveSent old.system.gates (lists_of (length l) sends) l now) c.deref_mut.ensures.value went.sent in
    let is = ran.senders ∙ with_items_is old.senders now (sent.same_count ∙ sym old.senders.ok.0) in
    on_ok_weaker c.run_first.result
    (sent-and-run g.K.Behaviours.gives orders old c.run_first.new.built now
    (sym (length-lists senders sends ∙ many-from senders sends c.requires.from)) c.requires.together sent went.same_gates is ran.same_system.system
    ran.same_system.same_gates ran.log_kept) ran.runs

pub returns-clause-quiet : goal.returns-clause-quiet
returns-clause-quiet g c =
    ok-each c.run_first.result c.run_first.ensures.quiet
    (λ turns quiet. record { found_nothing = quiet.found_nothing; made = quiet.made; kept = quiet.kept })

pub returns-clause-fault : goal.returns-clause-fault
returns-clause-fault g c =
    let old = c.args.built.now in let gates = old.system.gates in let now = c.send_in_order.new.senders in let ran = c.run_first.ensures in
    let orders = lists_of (length old.senders.items) c.args.sends.now in
    let sent = subst (λ l. HaveSent gates (lists_of (length l) c.args.sends.now) l now) c.deref_mut.ensures.value c.in_ok-send_in_order.ensures.sent in
    let is = ran.senders ∙ with_items_is old.senders now (sent.same_count ∙ sym old.senders.ok.0) in
    err-weaker _ _ c.run_first.result (λ e broken. inr (subst (HaveSent gates orders old.senders.items) (sym is) sent, broken)) ran.fault

pub returns-in_err-send_in_order-clause-same_system : goal.returns-in_err-send_in_order-clause-same_system
returns-in_err-send_in_order-clause-same_system g c = record { system = refl; handles = refl; same_gates = c.requires.together.handles }

pub returns-in_err-send_in_order-clause-ran : goal.returns-in_err-send_in_order-clause-ran
returns-in_err-send_in_order-clause-ran g c = none-of-err _ c.from_residual.result c.in_err-send_in_order.field-0.0 c.from_residual.ensures.1

pub returns-in_err-send_in_order-clause-quiet : goal.returns-in_err-send_in_order-clause-quiet
returns-in_err-send_in_order-clause-quiet g c = none-of-err _ c.from_residual.result c.in_err-send_in_order.field-0.0 c.from_residual.ensures.1

pub returns-in_err-send_in_order-clause-fault : goal.returns-in_err-send_in_order-clause-fault
returns-in_err-send_in_order-clause-fault g c =
    let old = c.args.built.now in let now = c.send_in_order.new.senders in let gates = old.system.gates in
    let error = c.in_err-send_in_order.field-0.0 in let sends = c.args.sends.now in let lent = c.deref_mut.ensures.value in
    let items = with_items_is old.senders now (c.send_in_order.auto.senders ∙ ap length lent ∙ sym old.senders.ok.0) in
    let broke = subst (λ l. BreaksRow gates sends l now error) lent c.in_err-send_in_order.ensures.fault in
    err-of (BreaksInOrder g.K.Behaviours.gives sends old (record old { senders = with_items old.senders now })) c.from_residual.result error
    c.from_residual.ensures.1 (inl (subst (λ l. BreaksRow gates sends old.senders.items l error) (sym items) broke, refl))
