use Rattle.std.proofs.Common.{◌∙◌, [], refl, sym, subst, ◌<◌}
use Rattle.crossbeam_deque.specs.Injected.{injector_view}
use Rattle.mb_gate.specs.Untouched.{IsUntouched}
use Rattle.mb_pool.specs.Rule.{QueueMoment, TakesFirst}
use Rattle.mb_pool.proofs.Steps.{deque_take, deque_empty, took}
use Rattle.mb_pool.proofs.shared_port.steal_first.Goals as goal

pub steal_as-requires-clause-rule : goal.steal_as-requires-clause-rule
steal_as-requires-clause-rule g c = let share = subst (λ l. 0 < l.shares) (sym c.loop.invariant.1) c.requires.share in
    (deque_take _ _ _ share, deque_empty _ _ _ share)

pub returns-in-Success-clause-taken : goal.returns-in-Success-clause-taken
returns-in-Success-clause-taken g c =
    subst (λ l. TakesFirst (IsUntouched g.H.MailboxState.is_of g.H.MailboxState.facts) l c.open.result (injector_view c.steal_as.new.pass)) c.loop.invariant.1
    (took (IsUntouched g.H.MailboxState.is_of g.H.MailboxState.facts) _ _ _ c.open.result c.open.ensures c.in-Success.ensures.rule)

pub loop-init : goal.loop-init
loop-init g c = (c.requires.queue, refl)

pub steal_as-requires-clause-queue : goal.steal_as-requires-clause-queue
steal_as-requires-clause-queue g c = c.loop.invariant.0

pub returns-in-Success-clause-queue : goal.returns-in-Success-clause-queue
returns-in-Success-clause-queue g c = c.steal_as.ensures.same.0

pub returns-in-Empty-clause-queue : goal.returns-in-Empty-clause-queue
returns-in-Empty-clause-queue g c = c.steal_as.ensures.same.0

pub returns-in-Empty-clause-taken : goal.returns-in-Empty-clause-taken
returns-in-Empty-clause-taken g c =
    let found = c.in-Empty.ensures.rule in (
      found.0 ∙ c.loop.invariant.1,
      subst (λ l. QueueMoment (IsUntouched g.H.MailboxState.is_of g.H.MailboxState.facts) l []) c.loop.invariant.1 found.1,
    )

pub loop-preserved : goal.loop-preserved
loop-preserved g c = (c.steal_as.ensures.same.0, c.in-Retry.ensures.rule ∙ c.loop.invariant.1)
