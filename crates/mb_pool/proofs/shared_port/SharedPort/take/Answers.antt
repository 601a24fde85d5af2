use Rattle.std.proofs.Common.{◌≡◌, ◌<◌, [], MatchOption, ap, ◌∙◌, subst, sym}
use Rattle.crossbeam_deque.specs.Injected.{IsInjectorPassOf, injector_view}
use Rattle.crossbeam_queue.specs.Passes.{view}
use Rattle.mb_gate.specs.Untouched.{IsUntouched}
use Rattle.mb_pool.specs.Parts.{port_view}
use Rattle.mb_pool.specs.Places.{PoolPort}
use Rattle.mb_pool.specs.Rule.{QueueMoment, TakesFirst}
use Rattle.mb_pool.specs.Shared.{feed_queue_view}
use Rattle.mb_pool.proofs.PortViews.{of_option, same_feed_queue, same_slots}
use Rattle.mb_pool.proofs.Steps.{learns, queue_take, was_empty}
use Rattle.mb_pool.proofs.shared_port.SharedPort.take.Goals as goal

-- ---- the one queue of a shared pool

pub pop_as-requires-clause-rule : goal.pop_as-requires-clause-rule
pop_as-requires-clause-rule g c =
    let share = subst (λ (l : PoolPort _). 0 < l.ledger.shares) (ap port_view c.in-Bounded.is ∙ sym c.port.view_is) c.requires.share in
    (queue_take _ _ _ share, learns _ _ _ share)

pub returns-in-Some-clause-taken : goal.returns-in-Some-clause-taken
returns-in-Some-clause-taken g c =
    let fit = IsUntouched g.H.MailboxState.is_of g.H.MailboxState.facts in let new = view c.pop_as.new.pass in
    subst (λ (l : PoolPort _). TakesFirst fit l.ledger c.open.result new) (c.port.view_is ∙ sym (ap port_view c.in-Bounded.is))
    (subst (λ x. TakesFirst fit (view c.port.inside.pass) x new) (sym c.open.ensures) c.in-Some.ensures.rule)

pub returns-in-None-clause-taken : goal.returns-in-None-clause-taken
returns-in-None-clause-taken g c =
    let fit = IsUntouched g.H.MailboxState.is_of g.H.MailboxState.facts in
    let old = c.port.inside.pass in let rule = c.in-None.ensures.rule in
    let is = c.port.view_is ∙ sym (ap port_view c.in-Bounded.is) in (
      same_slots c.port.inside.queue.value old c.pop_as.new.pass c.pop_as.ensures.queue.0 rule.0 ∙ is,
      subst (λ (l : PoolPort _). QueueMoment fit l.ledger []) is (was_empty fit (view old) rule.1.0 rule.1.1 rule.1.2),
    )

-- ---- the injector of a stealing one

pub returns-in-Unbounded-clause-taken : goal.returns-in-Unbounded-clause-taken
returns-in-Unbounded-clause-taken g c =
    let fit = IsUntouched g.H.MailboxState.is_of g.H.MailboxState.facts in
    let old = c.port-in-Unbounded.inside.pass in let new = c.steal_first.new.pass in let taken = c.steal_first.result in
    let here = subst (λ q. IsInjectorPassOf q old) (sym c.deref-in-Unbounded.ensures) c.port-in-Unbounded.invariant in
    subst (λ (l : PoolPort _). MatchOption taken ((feed_queue_view new ≡ l) × QueueMoment fit l.ledger [])
    (λ x. TakesFirst fit l.ledger x (injector_view new)))
    (c.port-in-Unbounded.view_is ∙ sym (ap port_view c.in-Unbounded.is))
    (of_option _ _ _ _ taken (λ h. (same_feed_queue old new (c.steal_first.ensures.queue.0.0 ∙ sym here.0.0) h.0, h.1)) (λ _ h. h)
    c.steal_first.ensures.taken)
