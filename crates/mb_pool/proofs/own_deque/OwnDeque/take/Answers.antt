use Rattle.std.proofs.Common.{◌<◌, ◌∙◌, [], subst, sym}
use Rattle.crossbeam_deque.specs.Handles.{worker_view}
use Rattle.mb_gate.specs.Untouched.{IsUntouched}
use Rattle.mb_pool.specs.Places.{PoolPort}
use Rattle.mb_pool.specs.Rule.{QueueMoment, TakesFirst}
use Rattle.mb_pool.proofs.PortViews.{same_own}
use Rattle.mb_pool.proofs.Steps.{deque_take, deque_empty, took}
use Rattle.mb_pool.proofs.own_deque.OwnDeque.take.Goals as goal

pub pop_as-requires-clause-fifo : goal.pop_as-requires-clause-fifo
pop_as-requires-clause-fifo g c =
    λ _. deque_take (IsUntouched g.H.MailboxState.is_of g.H.MailboxState.facts) _ _
    (subst (λ (l : PoolPort _). 0 < l.ledger.shares) (sym c.self.view_is) c.requires.share)

pub pop_as-requires-clause-empty : goal.pop_as-requires-clause-empty
pop_as-requires-clause-empty g c =
    deque_empty (IsUntouched g.H.MailboxState.is_of g.H.MailboxState.facts) _ _
    (subst (λ (l : PoolPort _). 0 < l.ledger.shares) (sym c.self.view_is) c.requires.share)

pub returns-in-Some-clause-taken : goal.returns-in-Some-clause-taken
returns-in-Some-clause-taken g c =
    let fit = IsUntouched g.H.MailboxState.is_of g.H.MailboxState.facts in
    subst (λ (l : PoolPort _). TakesFirst fit l.ledger c.open.result (worker_view c.pop_as.new.self)) c.self.view_is
    (took fit _ _ _ c.open.result c.open.ensures c.in-Some.ensures.rule)

pub returns-in-None-clause-taken : goal.returns-in-None-clause-taken
returns-in-None-clause-taken g c =
    let rule = c.in-None.ensures.rule in (
      same_own c.self.inside.number c.self.inside.worker c.pop_as.new.self c.pop_as.ensures.same.0.0 rule.0 ∙ c.self.view_is,
      subst (λ (l : PoolPort _). QueueMoment (IsUntouched g.H.MailboxState.is_of g.H.MailboxState.facts) l.ledger []) c.self.view_is rule.1,
    )
