use Rattle.std.proofs.Common.{◌≡◌, ◌∙◌, ◌-◌, ap, length, sym, subst, arith}
use Rattle.mb_msg.specs.declared.envelope.Envelope.{Envelope}
use Rattle.mb_queue.specs.Pushes.{IsReasonToRefuse}
use Rattle.mb_queue.proofs.RefusedLemmas.{refusal-of}
use Rattle.mb_home.specs.Contents.{Contents}
use Rattle.mb_home.specs.Steps.{next_envelope, with_pushed}
use Rattle.mb_home.proofs.TellSteps.{delivered, told-there, fits-next, pass-next, pushes-next, settled-pushes, settled-dead_letter, undelivered}
use Rattle.mb_home.proofs.home.Home.push.Goals as goal
use Rattle.mb_home.proofs.home.Home.push.Goals.{After-index_mut, After-put}

pub overflow_sub-place : goal.overflow_sub-place
overflow_sub-place g c = omega (arith, (told-there _ _ _ _ _ c.requires.settled).0)

pub index_mut-requires : goal.index_mut-requires
index_mut-requires g c =
    let sends = ap (λ (h : Contents). length h.sends) c.self.view_is in
    omega (arith, (told-there _ _ _ _ _ c.requires.settled).0, (told-there _ _ _ _ _ c.requires.settled).1, sends)

-- the pass of the place may push the envelope

pub put-requires-clause-sender : goal.put-requires-clause-sender
put-requires-clause-sender g c =
    let there = pass-next _ _ _ _ _ c.requires.settled _ c.index_mut.result.now c.self.view_is c.index_mut.ensures.value in
    subst (λ (e : Envelope). e.by.0 ≡ c.index_mut.result.now.by) (sym c.requires.next)
    (fits-next _ _ _ _ _ c.requires.settled c.index_mut.result.now there).0

pub put-requires-clause-addressed : goal.put-requires-clause-addressed
put-requires-clause-addressed g c =
    let there = pass-next _ _ _ _ _ c.requires.settled _ c.index_mut.result.now c.self.view_is c.index_mut.ensures.value in
    subst (λ (e : Envelope). e.to.0 ≡ c.index_mut.result.now.queue.to) (sym c.requires.next)
    (fits-next _ _ _ _ _ c.requires.settled c.index_mut.result.now there).1

-- it was pushed

pub returns-in-Ok-clause-pushed : goal.returns-in-Ok-clause-pushed
returns-in-Ok-clause-pushed g c =
    let there = pass-next _ _ _ _ _ c.requires.settled _ c.index_mut.result.now c.self.view_is c.index_mut.ensures.value in
    pushes-next _ _ _ _ _ c.requires.settled _
    (delivered c.args.self.now _ (c.args.envelope.now.to.0 - 1) c.index_mut.result.now c.put.new.self (next_envelope c.args.self.now c.args.envelope.now.to c.args.envelope.now.body)
    c.self.view_is there (c.in-Ok.ensures.pushed ∙ ap (λ e. with_pushed e c.index_mut.result.now) c.requires.next))

pub returns-in-Ok-clause-settled : goal.returns-in-Ok-clause-settled
returns-in-Ok-clause-settled g c =
    let there = pass-next _ _ _ _ _ c.requires.settled _ c.index_mut.result.now c.self.view_is c.index_mut.ensures.value in
    settled-pushes c.args.self.now _ g.K.Behaviours.gives c.args.envelope.now.to c.args.envelope.now.body c.requires.settled
    (delivered c.args.self.now _ (c.args.envelope.now.to.0 - 1) c.index_mut.result.now c.put.new.self (next_envelope c.args.self.now c.args.envelope.now.to c.args.envelope.now.body)
    c.self.view_is there (c.in-Ok.ensures.pushed ∙ ap (λ e. with_pushed e c.index_mut.result.now) c.requires.next))

-- it was refused

pub returns-in-Err-clause-refused : goal.returns-in-Err-clause-refused
returns-in-Err-clause-refused g c = record {
  pass = c.index_mut.result.now;
  was = pass-next _ _ _ _ _ c.requires.settled _ c.index_mut.result.now c.self.view_is c.index_mut.ensures.value;
  refusal = refusal-of c.index_mut.result.now c.of-refused.result
      (subst (IsReasonToRefuse c.index_mut.result.now) (sym c.of-refused.ensures.1) c.in-Err.ensures.refused);
}

pub returns-in-Err-clause-settled : goal.returns-in-Err-clause-settled
returns-in-Err-clause-settled g c =
    let there = pass-next _ _ _ _ _ c.requires.settled _ c.index_mut.result.now c.self.view_is c.index_mut.ensures.value in
    settled-dead_letter c.args.self.now _ c.record_dead_letter.new.self g.K.Behaviours.gives c.args.envelope.now.to c.args.envelope.now.body c.of-refused.result
    c.args.envelope.now c.reason.result c.requires.settled
    (undelivered c.args.self.now _ (c.args.envelope.now.to.0 - 1) c.index_mut.result.now c.put.new.self c.self.view_is there c.in-Err.ensures.pushed)
    (returns-in-Err-clause-refused g c) c.requires.next c.reason.ensures c.record_dead_letter.ensures.same
    c.record_dead_letter.ensures.room
