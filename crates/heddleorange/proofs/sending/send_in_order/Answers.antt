use Rattle.std.proofs.Common.{◌<◌, length, get_or, subst, arith}
use Rattle.std.specs.Prelude.{slice_set}
use Rattle.std.proofs.lemmas.List.{take_all}
use Rattle.std.proofs.lemmas.List.Elements.{All-get_or, All-set}
use Rattle.mb_system.specs.Members.{IsSenderOf}
use Rattle.heddleorange.specs.BrokenOff.{BreaksRow}
use Rattle.heddleorange.proofs.BrokenOff.{breaks-row}
use Rattle.heddleorange.proofs.InTurn.{AreEach, DidOwn, all-in-turn, no-sending, none-sent, one-sent}
use Rattle.heddleorange.proofs.Sent.{err-of}
use Rattle.heddleorange.proofs.sending.send_in_order.Goals as goal

pub loop-send-init : goal.loop-send-init
loop-send-init g c =
    (c.requires.same_gates, none-sent c.args.system.now.gates c.args.senders.now c.requires.owes_nobody)

pub loop-send-preserved : goal.loop-send-preserved
loop-send-preserved g c =
    let at = c.loop-send in let gates = c.args.system.now.gates in let sends = c.args.sends.now in
    let send = get_or sends at.send-index no-sending in let one = c.in_ok-send_and_retry.ensures in
    let from = All-get_or (λ s. s.from < length c.args.senders.now) sends at.send-index no-sending c.loop-send-test.true c.requires.from in
    let many = at.invariant.1.same_count in (
      All-set (λ s. IsSenderOf gates s) at.senders send.from c.send_and_retry.new.sender one.same_gates at.invariant.0,
      one-sent gates sends at.send-index no-sending c.args.senders.now at.senders c.index-senders-send.result c.send_and_retry.new.sender
          c.loop-send-test.true (omega (arith, from, many)) at.invariant.1
          (one.done.sent, one.done.nobody, one.done.obligations),
    )

pub returns-clause-sent : goal.returns-clause-sent
returns-clause-sent g c =
    let gates = c.args.system.now.gates in let sends = c.args.sends.now in
    all-in-turn gates (length c.args.senders.now) sends c.args.senders.now c.loop-send.senders
    (subst (λ l. AreEach (DidOwn gates l) c.args.senders.now c.loop-send.senders) (take_all _ _ c.loop-send-test.false) c.loop-send.invariant.1)

pub returns-in_err-send_and_retry-clause-fault : goal.returns-in_err-send_and_retry-clause-fault
returns-in_err-send_and_retry-clause-fault g c =
    let at = c.loop-send in let gates = c.args.system.now.gates in let sends = c.args.sends.now in
    let send = get_or sends at.send-index no-sending in let new = c.send_and_retry.new.sender in
    let from = All-get_or (λ s. s.from < length c.args.senders.now) sends at.send-index no-sending c.loop-send-test.true c.requires.from in
    let many = at.invariant.1.same_count in let error = c.in_err-send_and_retry.field-0.0 in
    err-of (BreaksRow gates sends c.args.senders.now (slice_set at.senders send.from new)) c.from_residual.result error c.from_residual.ensures.1
    (breaks-row gates sends at.send-index no-sending c.args.senders.now at.senders c.index-senders-send.result new error c.loop-send-test.true
    (omega (arith, from, many)) at.invariant.1 c.in_err-send_and_retry.ensures.fault)

pub returns-clause-same_gates : goal.returns-clause-same_gates
returns-clause-same_gates g c = c.loop-send.invariant.0

pub send_and_retry-requires : goal.send_and_retry-requires
send_and_retry-requires g c =
    let at = c.loop-send in let sends = c.args.sends.now in let send = get_or sends at.send-index no-sending in
    let from = All-get_or (λ s. s.from < length c.args.senders.now) sends at.send-index no-sending c.loop-send-test.true c.requires.from in
    let many = at.invariant.1.same_count in record {
      same_gates =
          All-get_or (λ s. IsSenderOf c.args.system.now.gates s) at.senders send.from c.index-senders-send.result (omega (arith, from, many))
          at.invariant.0;
    }

pub returns-in_err-send_and_retry-clause-same_gates : goal.returns-in_err-send_and_retry-clause-same_gates
returns-in_err-send_and_retry-clause-same_gates g c =
    let at = c.loop-send in let send = get_or c.args.sends.now at.send-index no-sending in
    All-set (λ s. IsSenderOf c.args.system.now.gates s) at.senders send.from c.send_and_retry.new.sender c.in_err-send_and_retry.ensures.same_gates
    at.invariant.0

pub bounds-senders-send : goal.bounds-senders-send
bounds-senders-send g c =
    let at = c.loop-send in let sends = c.args.sends.now in
    let from = All-get_or (λ s. s.from < length c.args.senders.now) sends at.send-index no-sending c.loop-send-test.true c.requires.from in
    let many = at.invariant.1.same_count in omega (arith, from, many)
