use Rattle.std.proofs.Common.{◌<◌, ap, ◌∙◌, subst, sym}
use Rattle.crossbeam_queue.specs.Passes.{view}
use Rattle.mb_gate.specs.PooledClaims.{claim_in}
use Rattle.mb_gate.specs.Untouched.{IsUntouched}
use Rattle.mb_pool.specs.Parts.{port_view}
use Rattle.mb_pool.specs.Places.{PoolPort}
use Rattle.mb_pool.specs.Rule.{PutsLast}
use Rattle.mb_pool.proofs.PortViews.{same_slots}
use Rattle.mb_pool.proofs.Steps.{queue_push}
use Rattle.mb_pool.proofs.shared_port.SharedPort.try_push.Goals as goal

pub new-requires : goal.new-requires
new-requires g c = record { untouched = ((port_view c.args.self.now).ledger.gates, c.requires.untouched) }

pub try_push_as-requires-clause-rule : goal.try_push_as-requires-clause-rule
try_push_as-requires-clause-rule g c =
    let fit = IsUntouched g.H.MailboxState.is_of g.H.MailboxState.facts in
    let is = ap port_view c.in-Bounded.is ∙ sym c.port.view_is in
    queue_push fit _ _ _ _ (subst (λ (l : PoolPort _). 0 < l.ledger.shares) is c.requires.share)
    (subst (λ x. fit (view c.port.inside.pass).gates x) (sym c.new.ensures)
    (subst (λ (l : PoolPort _). fit l.ledger.gates c.args.claim) is c.requires.untouched))

pub returns-in-Ok-clause-pushed : goal.returns-in-Ok-clause-pushed
returns-in-Ok-clause-pushed g c =
    let fit = IsUntouched g.H.MailboxState.is_of g.H.MailboxState.facts in let new = view c.try_push_as.new.pass in
    subst (λ (l : PoolPort _). PutsLast fit l.ledger c.args.claim new) (c.port.view_is ∙ sym (ap port_view c.in-Bounded.is))
    (subst (λ x. PutsLast fit (view c.port.inside.pass) x new) c.new.ensures c.in-Ok.ensures.rule)

pub returns-in-Err-clause-pushed : goal.returns-in-Err-clause-pushed
returns-in-Err-clause-pushed g c =
    let rule = c.in-Err.ensures.rule in (
      c.open.ensures ∙ ap (λ p. claim_in p) rule.0 ∙ c.new.ensures,
      same_slots c.port.inside.queue.value c.port.inside.pass c.try_push_as.new.pass c.try_push_as.ensures.queue.0 rule.1 ∙ c.port.view_is
          ∙ sym (ap port_view c.in-Bounded.is),
    )
