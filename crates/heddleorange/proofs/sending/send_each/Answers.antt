use Rattle.std.proofs.Common.{◌≡◌, ◌<◌, Some, length, get_or, arith, subst}
use Rattle.std.specs.Prelude.{slice_get, slice_set}
use Rattle.std.proofs.lemmas.List.Elements.{All-get_or, All-set}
use Rattle.std.proofs.lemmas.Option.{slice_get-get_or}
use Rattle.mb_system.specs.Members.{IsSenderOf}
use Rattle.heddleorange.specs.BrokenOff.{BreaksSender}
use Rattle.heddleorange.specs.Sent.{HasSentAndRetried}
use Rattle.heddleorange.proofs.BrokenOff.{breaks-sender}
use Rattle.heddleorange.proofs.Sent.{Did, all-sent, err-of, one-done, orders-at, orders-here, orders_of}
use Rattle.heddleorange.proofs.sending.send_each.Goals as goal

pub loop-place-preserved : goal.loop-place-preserved
loop-place-preserved g c =
    let at = c.loop-place in let one = c.in_ok-send_and_retry.ensures in let gates = c.args.system.now.gates in
    let place = at.place in let old = get_or at.senders place c.index-senders-place.result in let new = c.send_and_retry.new.sender in
    let orders = c.index-sends-place.result in
    let test = c.loop-place-test.true in let same = at.invariant.1.same_count in let as_many = c.requires.same_count in
    let in_senders : place < length at.senders = omega (arith, test, same) in
    let in_sends : place < length c.args.sends.now = omega (arith, test, same, as_many) in
    let here : slice_get at.senders place ≡ Some old = slice_get-get_or at.senders place c.index-senders-place.result in_senders in (
      All-set (λ s. IsSenderOf gates s) at.senders place new one.same_gates at.invariant.0,
      one-done (Did gates (orders_of c.args.sends.now)) place c.args.senders.now at.senders old new at.invariant.1 here (λ of there.
          subst (λ l. HasSentAndRetried gates l old new)
          (orders-at c.args.sends.now place orders of c.deref.result.now in_sends c.index-sends-place.is c.deref.ensures.value there)
          (one.done.sent, one.done.nobody, one.done.obligations)),
    )

pub returns-clause-sent : goal.returns-clause-sent
returns-clause-sent g c =
    let at = c.loop-place in let test = c.loop-place-test.false in let same = at.invariant.1.same_count in
    all-sent c.args.system.now.gates (orders_of c.args.sends.now) at.place c.args.senders.now at.senders (omega (arith, test, same)) at.invariant.1

pub returns-in_err-send_and_retry-clause-fault : goal.returns-in_err-send_and_retry-clause-fault
returns-in_err-send_and_retry-clause-fault g c =
    let at = c.loop-place in let place = at.place in let orders = c.index-sends-place.result in
    let test = c.loop-place-test.true in let same = at.invariant.1.same_count in let as_many = c.requires.same_count in
    let in_senders : place < length at.senders = omega (arith, test, same) in
    let in_sends : place < length c.args.sends.now = omega (arith, test, same, as_many) in
    let gates = c.args.system.now.gates in let all = orders_of c.args.sends.now in
    let old = get_or at.senders place c.index-senders-place.result in let new = c.send_and_retry.new.sender in
    let error = c.in_err-send_and_retry.field-0.0 in
    err-of (BreaksSender gates all c.args.senders.now (slice_set at.senders place new)) c.from_residual.result error c.from_residual.ensures.1
    (breaks-sender gates all place c.args.senders.now at.senders old new c.deref.result.now error at.invariant.1
    (slice_get-get_or at.senders place c.index-senders-place.result in_senders)
    (orders-here c.args.sends.now place orders c.deref.result.now in_sends c.index-sends-place.is c.deref.ensures.value)
    c.in_err-send_and_retry.ensures.fault)

pub returns-clause-same_gates : goal.returns-clause-same_gates
returns-clause-same_gates g c = c.loop-place.invariant.0

pub send_and_retry-requires : goal.send_and_retry-requires
send_and_retry-requires g c =
    let at = c.loop-place in let test = c.loop-place-test.true in let many = at.invariant.1.same_count in record {
      same_gates =
          All-get_or (λ s. IsSenderOf c.args.system.now.gates s) at.senders at.place c.index-senders-place.result (omega (arith, test, many))
          at.invariant.0;
    }

pub returns-in_err-send_and_retry-clause-same_gates : goal.returns-in_err-send_and_retry-clause-same_gates
returns-in_err-send_and_retry-clause-same_gates g c =
    All-set (λ s. IsSenderOf c.args.system.now.gates s) c.loop-place.senders c.loop-place.place c.send_and_retry.new.sender
    c.in_err-send_and_retry.ensures.same_gates c.loop-place.invariant.0
