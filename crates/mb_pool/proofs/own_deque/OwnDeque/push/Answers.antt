use Rattle.std.proofs.Common.{◌<◌, ap, ◌∙◌, subst, sym}
use Rattle.crossbeam_deque.specs.Handles.{worker_view}
use Rattle.mb_gate.specs.PooledClaims.{claim_in}
use Rattle.mb_gate.specs.Untouched.{IsUntouched}
use Rattle.mb_pool.specs.Places.{PoolPort}
use Rattle.mb_pool.specs.Rule.{PutsLast}
use Rattle.mb_pool.proofs.PortViews.{same_own}
use Rattle.mb_pool.proofs.Steps.{deque_push, put}
use Rattle.mb_pool.proofs.own_deque.OwnDeque.push.Goals as goal

pub new-requires : goal.new-requires
new-requires g c = record { untouched = (c.args.self.now.ledger.gates, c.requires.untouched) }

pub push_as-requires-clause-pushes : goal.push_as-requires-clause-pushes
push_as-requires-clause-pushes g c =
    let fit = IsUntouched g.H.MailboxState.is_of g.H.MailboxState.facts in
    deque_push fit _ _ _ (subst (λ (l : PoolPort _). 0 < l.ledger.shares) (sym c.self.view_is) c.requires.share)
    (subst (λ x. fit (worker_view c.self.inside.worker).gates x) (sym c.new.ensures)
    (subst (λ (l : PoolPort _). fit l.ledger.gates c.args.claim) (sym c.self.view_is) c.requires.untouched))

pub returns-in-Ok-clause-pushed : goal.returns-in-Ok-clause-pushed
returns-in-Ok-clause-pushed g c =
    let fit = IsUntouched g.H.MailboxState.is_of g.H.MailboxState.facts in let new = worker_view c.push_as.new.self in
    subst (λ (l : PoolPort _). PutsLast fit l.ledger c.args.claim new) c.self.view_is
    (subst (λ x. PutsLast fit (worker_view c.self.inside.worker) x new) c.new.ensures (put fit _ _ _ c.in-Ok.ensures.rule.0))

pub returns-in-Err-clause-pushed : goal.returns-in-Err-clause-pushed
returns-in-Err-clause-pushed g c =
    let rule = c.in-Err.ensures.rule in (
      c.open.ensures ∙ ap (λ p. claim_in p) rule.0 ∙ c.new.ensures,
      same_own c.self.inside.number c.self.inside.worker c.push_as.new.self c.push_as.ensures.same.0 rule.1 ∙ c.self.view_is,
    )
