use Rattle.std.proofs.Common.{refl, ap, subst, ◌∙◌}
use Rattle.mb_gate.specs.Claims.{held_in}
use Rattle.mb_gate.specs.Lists.{may_lock_list}
use Rattle.mb_gate.specs.TableSteps.{ListLocked}
use Rattle.mb_gate.proofs.ListCalls.{holder_may, when_true, when_false}
use Rattle.mb_gate.proofs.gates.Gates.lock_list.Goals as goal

pub loop-init : goal.loop-init
loop-init g c = (refl, refl)

pub loop-preserved-then-is_locked : goal.loop-preserved-then-is_locked
loop-preserved-then-is_locked g c = c.loop.invariant

pub try_lock_list-requires-clause-same_gates : goal.try_lock_list-requires-clause-same_gates
try_lock_list-requires-clause-same_gates g c = c.loop.invariant.0 ∙ c.requires.same_gates

pub try_lock_list-requires-clause-no_list : goal.try_lock_list-requires-clause-no_list
try_lock_list-requires-clause-no_list g c = ap (λ m. m.0.list) c.loop.invariant.1 ∙ c.requires.no_list

pub try_lock_list-requires-clause-may_lock : goal.try_lock_list-requires-clause-may_lock
try_lock_list-requires-clause-may_lock g c = ap (λ m. may_lock_list c.args.id.0 m.0) c.loop.invariant.1
    ∙ holder_may c.args.id.0 c.args.seat.now.me.0 (held_in c.args.seat.now.me.0) c.requires.holder.has c.requires.holder.of

pub returns-then-try_lock_list-clause-same_gates : goal.returns-then-try_lock_list-clause-same_gates
returns-then-try_lock_list-clause-same_gates g c = c.try_lock_list.ensures.same_gates ∙ c.loop.invariant.0

pub returns-then-try_lock_list-clause-answer : goal.returns-then-try_lock_list-clause-answer
returns-then-try_lock_list-clause-answer g c =
    subst (λ m. ListLocked c.args.id.0 c.of-word.result.bits m c.try_lock_list.new.seat.me) c.loop.invariant.1 (when_true _ _ _ c.if-try_lock_list.true c.try_lock_list.ensures.answer)

pub loop-preserved : goal.loop-preserved
loop-preserved g c = (c.try_lock_list.ensures.same_gates ∙ c.loop.invariant.0, when_false _ _ _ c.if-try_lock_list.false c.try_lock_list.ensures.answer ∙ c.loop.invariant.1)
