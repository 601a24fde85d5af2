use Rattle.std.proofs.Common.{◌∙◌, [], refl, sym, subst, ◌<◌}
use Rattle.crossbeam_deque.specs.Handles.{stealer_deque, view}
use Rattle.mb_gate.specs.Untouched.{IsUntouched}
use Rattle.mb_pool.specs.Rule.{QueueMoment, TakesFirst}
use Rattle.mb_pool.proofs.Steps.{deque_take, deque_few, same_deque, took}
use Rattle.mb_pool.proofs.thief.steal_first.Goals as goal

pub steal_as-requires-clause-takes : goal.steal_as-requires-clause-takes
steal_as-requires-clause-takes g c = deque_take _ _ _ (subst (λ l. 0 < l.shares) (sym c.loop.invariant.1) c.requires.share)

pub steal_as-requires-clause-empty : goal.steal_as-requires-clause-empty
steal_as-requires-clause-empty g c = deque_few _ _ _ _ c.requires.flavor (subst (λ l. 0 < l.shares) (sym c.loop.invariant.1) c.requires.share)

pub returns-in-Success-clause-taken : goal.returns-in-Success-clause-taken
returns-in-Success-clause-taken g c =
    subst (λ l. TakesFirst (IsUntouched g.H.MailboxState.is_of g.H.MailboxState.facts) l c.open.result (view c.steal_as.new.pass)) c.loop.invariant.1
    (took (IsUntouched g.H.MailboxState.is_of g.H.MailboxState.facts) _ _ _ c.open.result c.open.ensures c.in-Success.ensures.rule)

pub loop-init : goal.loop-init
loop-init g c = (c.requires.deque, refl)

pub steal_as-requires-clause-table : goal.steal_as-requires-clause-table
steal_as-requires-clause-table g c = c.loop.invariant.0

pub returns-in-Success-clause-deque : goal.returns-in-Success-clause-deque
returns-in-Success-clause-deque g c = same_deque (stealer_deque c.args.stealer.now) c.loop.pass c.steal_as.new.pass c.loop.invariant.0 c.steal_as.ensures.same

pub returns-in-Empty-clause-deque : goal.returns-in-Empty-clause-deque
returns-in-Empty-clause-deque g c = same_deque (stealer_deque c.args.stealer.now) c.loop.pass c.steal_as.new.pass c.loop.invariant.0 c.steal_as.ensures.same

pub returns-in-Empty-clause-taken : goal.returns-in-Empty-clause-taken
returns-in-Empty-clause-taken g c =
    let found = c.in-Empty.ensures.rule in (
      found.0 ∙ c.loop.invariant.1,
      subst (λ l. QueueMoment (IsUntouched g.H.MailboxState.is_of g.H.MailboxState.facts) l []) c.loop.invariant.1 found.1,
    )

pub loop-preserved : goal.loop-preserved
loop-preserved g c = (same_deque (stealer_deque c.args.stealer.now) c.loop.pass c.steal_as.new.pass c.loop.invariant.0 c.steal_as.ensures.same, c.in-Retry.ensures.rule.0 ∙ c.loop.invariant.1)
