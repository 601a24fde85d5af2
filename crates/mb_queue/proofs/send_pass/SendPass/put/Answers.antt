use Rattle.std.proofs.Common.{ap, sym, subst, ◌∙◌}
use Rattle.mb_queue.specs.Passes.{SendPassView}
use Rattle.mb_queue.specs.Representation.{IsSending, sending_of}
use Rattle.mb_queue.proofs.Sendings.{control-after, control-may, control-refused, control-seen, is-control, is-pushed, main-after, main-may, main-refused, main-seen}
use Rattle.mb_queue.proofs.send_pass.SendPass.put.Goals as goal

-- ---- it is a control message

pub put_to-requires : goal.put_to-requires
put_to-requires g c =
    let i = c.self.inside in
    let kept = subst (λ k. IsSending i.by.0 i.main k i.pushed) c.in-Some.is c.self.invariant in
    control-may i.by.0 i.main i.pushed c.args.envelope.now c.in-Some.control kept
    (is-control i.control c.in-Some.control c.args.envelope.now c.in-Some.is c.if-is_for_control.ensures)
    (c.requires.sender ∙ ap (λ (u : SendPassView). u.by) (sym c.self.view_is)) (c.requires.addressed ∙ ap (λ (u : SendPassView). u.queue.to) (sym
    c.self.view_is))

pub invariant_of-self : goal.invariant_of-self
invariant_of-self g c =
    let i = c.self.inside in
    let kept = subst (λ k. IsSending i.by.0 i.main k i.pushed) c.in-Some.is c.self.invariant in
    control-after i.by.0 i.main i.pushed c.args.envelope.now c.put_to.new.pushed c.put_to.new.port c.args.self.now c.in-Some.control c.put_to.result kept
    (is-control i.control c.in-Some.control c.args.envelope.now c.in-Some.is c.if-is_for_control.ensures) c.put_to.ensures.pushed

pub returns-then-is_for_control-clause-pushed : goal.returns-then-is_for_control-clause-pushed
returns-then-is_for_control-clause-pushed g c =
    let i = c.self.inside in
    let view = ap (λ k. sending_of i.by.0 i.main k i.pushed) (sym c.in-Some.is) ∙ c.self.view_is in
    control-seen i.by.0 i.main i.pushed c.args.envelope.now c.put_to.new.pushed c.put_to.new.port c.args.self.now c.in-Some.control c.put_to.result view
    c.put_to.ensures.pushed

pub returns-then-is_for_control-clause-refused : goal.returns-then-is_for_control-clause-refused
returns-then-is_for_control-clause-refused g c =
    let i = c.self.inside in
    let kept = subst (λ k. IsSending i.by.0 i.main k i.pushed) c.in-Some.is c.self.invariant in
    let view = ap (λ k. sending_of i.by.0 i.main k i.pushed) (sym c.in-Some.is) ∙ c.self.view_is in
    control-refused i.by.0 i.main i.pushed c.args.envelope.now c.put_to.new.pushed c.put_to.new.port c.args.self.now c.in-Some.control c.put_to.result kept
    view c.put_to.ensures.refused

-- ---- it is another, or there is one fifo

pub push-answer-requires : goal.push-answer-requires
push-answer-requires g c =
    let i = c.self.inside in
    main-may i.by.0 i.main i.pushed c.args.envelope.now i.control c.self.invariant c.if-is_for_control.ensures
    (c.requires.sender ∙ ap (λ (u : SendPassView). u.by) (sym c.self.view_is)) (c.requires.addressed ∙ ap (λ (u : SendPassView). u.queue.to) (sym
    c.self.view_is))

pub invariant_of-self-2 : goal.invariant_of-self-2
invariant_of-self-2 g c =
    let i = c.self.inside in
    main-after i.by.0 i.main i.pushed c.args.envelope.now c.add_pushed.new.pushed c.push-answer.new.self c.args.self.now i.control c.push-answer.result c.self.invariant
    c.if-is_for_control.ensures
    (is-pushed c.args.envelope.now c.push-answer.result i.main c.push-answer.new.self i.pushed c.add_pushed.new.pushed c.push-answer.ensures.pushed c.add_pushed.ensures)

pub returns-clause-pushed : goal.returns-clause-pushed
returns-clause-pushed g c =
    let i = c.self.inside in
    main-seen i.by.0 i.main i.pushed c.args.envelope.now c.add_pushed.new.pushed c.push-answer.new.self c.args.self.now i.control c.push-answer.result c.self.view_is
    (is-pushed c.args.envelope.now c.push-answer.result i.main c.push-answer.new.self i.pushed c.add_pushed.new.pushed c.push-answer.ensures.pushed c.add_pushed.ensures)

pub returns-clause-refused : goal.returns-clause-refused
returns-clause-refused g c =
    let i = c.self.inside in
    main-refused i.by.0 i.main i.pushed c.args.envelope.now c.add_pushed.new.pushed c.push-answer.new.self c.args.self.now i.control c.push-answer.result
    c.self.invariant c.self.view_is c.push-answer.ensures.refused
