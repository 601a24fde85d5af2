use Rattle.std.proofs.Common.{◌∙◌, Vec, ap, inl, inr, length, refl, subst, sym}
use Rattle.std.specs.Prelude.{All}
use Rattle.std.specs.Global.{Global}
use Rattle.std.specs.Vec.{with_items}
use Rattle.std.proofs.lemmas.List.{with_items_is}
use Rattle.std.proofs.lemmas.Result.{on_ok_weaker}
use Rattle.mb_shutdown.proofs.Lists.{length-mapped}
use Rattle.mb_system.specs.Members.{IsSenderOf}
use Rattle.mb_msg.specs.declared.order.Order.{Order}
use Rattle.heddleorange.specs.BrokenOff.{BreaksHere, BreaksSender}
use Rattle.heddleorange.specs.Sent.{HaveSent}
use Rattle.heddleorange.proofs.PassedOn.{none-of-err}
use Rattle.heddleorange.proofs.Sent.{err-of, err-weaker, ok-of, orders_of}
use Rattle.heddleorange.proofs.SentAndRun.{sent-and-run}
use Rattle.heddleorange.proofs.sending.send_and_run.Goals as goal

pub send_each-requires : goal.send_each-requires
send_each-requires g c =
    let system = c.args.built.now.system in let is = sym c.deref_mut.ensures.value in record {
      same_gates = subst (All (λ s. IsSenderOf system.gates s)) is c.requires.together.senders;
      same_count = ap length c.deref_mut.ensures.value ∙ c.requires.same_count;
    }

pub run_first-requires : goal.run_first-requires
run_first-requires g c =
    let old = c.args.built.now.senders in let now = c.send_each.new.senders in
    record {
      same_gates = c.requires.together.handles;
      senders =
          subst (All (λ s. IsSenderOf c.args.built.now.system.gates s))
          (sym (with_items_is old now (c.send_each.auto.senders ∙ ap length c.deref_mut.ensures.value ∙ sym old.ok.0))) c.in_ok-send_each.ensures.same_gates;
      not_empty = c.requires.not_empty;
    }

pub returns-clause-same_system : goal.returns-clause-same_system
returns-clause-same_system g c =
    let same = c.run_first.ensures.same_system in record { system = same.system; handles = same.handles; same_gates = same.same_gates }

pub returns-clause-ran : goal.returns-clause-ran
returns-clause-ran g c =
    let old = c.args.built.now in let now = c.send_each.new.senders in let went = c.in_ok-send_each.ensures in let ran = c.run_first.ensures in
    let orders = orders_of c.args.sends.now in let sent = subst (λ l. HaveSent old.system.gates orders l now) c.deref_mut.ensures.value went.sent in
    let is = ran.senders ∙ with_items_is old.senders now (sent.same_count ∙ sym old.senders.ok.0) in
    on_ok_weaker c.run_first.result
    (sent-and-run g.K.Behaviours.gives orders old c.run_first.new.built now
    (c.requires.same_count ∙ sym (length-mapped (λ (v : Vec Order Global). v.items) c.args.sends.now)) c.requires.together sent went.same_gates is
    ran.same_system.system ran.same_system.same_gates ran.log_kept) ran.runs

pub returns-clause-found_nothing : goal.returns-clause-found_nothing
returns-clause-found_nothing g c = ok-of c.run_first.result c.run_first.ensures.quiet (λ turns quiet. quiet.found_nothing)

pub returns-clause-fault : goal.returns-clause-fault
returns-clause-fault g c =
    let old = c.args.built.now in let now = c.send_each.new.senders in let ran = c.run_first.ensures in let orders = orders_of c.args.sends.now in
    let sent = subst (λ l. HaveSent old.system.gates orders l now) c.deref_mut.ensures.value c.in_ok-send_each.ensures.sent in
    let is = ran.senders ∙ with_items_is old.senders now (sent.same_count ∙ sym old.senders.ok.0) in
    err-weaker _ _ c.run_first.result (λ e broken. inr (subst (HaveSent old.system.gates orders old.senders.items) (sym is) sent, broken)) ran.fault

pub returns-in_err-send_each-clause-same_system : goal.returns-in_err-send_each-clause-same_system
returns-in_err-send_each-clause-same_system g c = record { system = refl; handles = refl; same_gates = c.requires.together.handles }

pub returns-in_err-send_each-clause-ran : goal.returns-in_err-send_each-clause-ran
returns-in_err-send_each-clause-ran g c = none-of-err _ c.from_residual.result c.in_err-send_each.field-0.0 c.from_residual.ensures.1

pub returns-in_err-send_each-clause-found_nothing : goal.returns-in_err-send_each-clause-found_nothing
returns-in_err-send_each-clause-found_nothing g c = none-of-err _ c.from_residual.result c.in_err-send_each.field-0.0 c.from_residual.ensures.1

pub returns-in_err-send_each-clause-fault : goal.returns-in_err-send_each-clause-fault
returns-in_err-send_each-clause-fault g c =
    let old = c.args.built.now in let now = c.send_each.new.senders in let gates = old.system.gates in let error = c.in_err-send_each.field-0.0 in
    let orders = orders_of c.args.sends.now in let lent = c.deref_mut.ensures.value in
    let items = with_items_is old.senders now (c.send_each.auto.senders ∙ ap length lent ∙ sym old.senders.ok.0) in
    let broke = subst (λ l. BreaksSender gates orders l now error) lent c.in_err-send_each.ensures.fault in
    err-of (BreaksHere g.K.Behaviours.gives orders old (record old { senders = with_items old.senders now })) c.from_residual.result error
    c.from_residual.ensures.1 (inl (subst (λ l. BreaksSender gates orders old.senders.items l error) (sym items) broke, refl))
