use Rattle.std.proofs.Common.{◌<◌, ap, ◌∙◌, subst, sym}
use Rattle.crossbeam_queue.specs.Passes.{view}
use Rattle.mb_gate.specs.Untouched.{IsUntouched}
use Rattle.mb_pool.specs.Parts.{port_view}
use Rattle.mb_pool.specs.Places.{PoolPort}
use Rattle.mb_pool.specs.Rule.{TakesFirst}
use Rattle.mb_pool.proofs.PortViews.{same_slots}
use Rattle.mb_pool.proofs.Steps.{queue_take}
use Rattle.mb_pool.proofs.shared_port.SharedPort.try_take.Goals as goal

pub try_pop_as-requires-clause-rule : goal.try_pop_as-requires-clause-rule
try_pop_as-requires-clause-rule g c =
    queue_take _ _ _ (subst (λ (l : PoolPort _). 0 < l.ledger.shares) (ap port_view c.in-Bounded.is ∙ sym c.port.view_is) c.requires.share)

pub returns-in-Some-clause-taken : goal.returns-in-Some-clause-taken
returns-in-Some-clause-taken g c =
    let fit = IsUntouched g.H.MailboxState.is_of g.H.MailboxState.facts in let new = view c.try_pop_as.new.pass in
    subst (λ (l : PoolPort _). TakesFirst fit l.ledger c.open.result new) (c.port.view_is ∙ sym (ap port_view c.in-Bounded.is))
    (subst (λ x. TakesFirst fit (view c.port.inside.pass) x new) (sym c.open.ensures) c.in-Some.ensures.rule)

pub returns-in-None-clause-taken : goal.returns-in-None-clause-taken
returns-in-None-clause-taken g c =
    same_slots c.port.inside.queue.value c.port.inside.pass c.try_pop_as.new.pass c.try_pop_as.ensures.queue.0 c.in-None.ensures.rule ∙ c.port.view_is
    ∙ sym (ap port_view c.in-Bounded.is)
