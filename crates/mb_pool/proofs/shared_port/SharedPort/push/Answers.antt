use Rattle.std.proofs.Common.{◌<◌, ap, ◌∙◌, refl, subst, sym}
use Rattle.crossbeam_deque.specs.Injected.{injector_view}
use Rattle.crossbeam_queue.specs.Passes.{ruled_capacity, view}
use Rattle.mb_gate.specs.PooledClaims.{claim_in}
use Rattle.mb_gate.specs.Untouched.{IsUntouched}
use Rattle.mb_pool.specs.Moves.{IsRefusal}
use Rattle.mb_pool.specs.Parts.{port_view}
use Rattle.mb_pool.specs.Places.{PoolPort}
use Rattle.mb_pool.specs.Rule.{PutsLast}
use Rattle.mb_pool.specs.declared.claim_refused.ClaimRefused.TheVariants.{Full}
use Rattle.mb_pool.proofs.PortViews.{same_slots}
use Rattle.mb_pool.proofs.Steps.{deque_push, learns, put, queue_push, was_full}
use Rattle.mb_pool.proofs.shared_port.SharedPort.push.Goals as goal

pub new-pooled-requires : goal.new-pooled-requires
new-pooled-requires g c = record { untouched = ((port_view c.args.self.now).ledger.gates, c.requires.untouched) }

-- ---- the one queue of a shared pool

pub push_as-requires-clause-rule : goal.push_as-requires-clause-rule
push_as-requires-clause-rule g c =
    let fit = IsUntouched g.H.MailboxState.is_of g.H.MailboxState.facts in
    let is = ap port_view c.in-Bounded.is ∙ sym c.port.view_is in
    let share = subst (λ (l : PoolPort _). 0 < l.ledger.shares) is c.requires.share in (
      queue_push fit _ _ _ _ share
          (subst (λ x. fit (view c.port.inside.pass).gates x) (sym c.new-pooled.ensures)
          (subst (λ (l : PoolPort _). fit l.ledger.gates c.args.claim) is c.requires.untouched)),
      learns fit _ _ share,
    )

pub returns-in-Ok-clause-pushed : goal.returns-in-Ok-clause-pushed
returns-in-Ok-clause-pushed g c =
    let fit = IsUntouched g.H.MailboxState.is_of g.H.MailboxState.facts in let new = view c.push_as.new.pass in
    subst (λ (l : PoolPort _). PutsLast fit l.ledger c.args.claim new) (c.port.view_is ∙ sym (ap port_view c.in-Bounded.is))
    (subst (λ x. PutsLast fit (view c.port.inside.pass) x new) c.new-pooled.ensures c.in-Ok.ensures.rule)

pub returns-in-Err-clause-pushed : goal.returns-in-Err-clause-pushed
returns-in-Err-clause-pushed g c =
    let fit = IsUntouched g.H.MailboxState.is_of g.H.MailboxState.facts in
    let q = c.port.inside.queue.value in let old = c.port.inside.pass in let new = c.push_as.new.pass in let rule = c.in-Err.ensures.rule in
    let is = c.port.view_is ∙ sym (ap port_view c.in-Bounded.is) in (
      c.open.ensures ∙ ap (λ p. claim_in p) rule.0 ∙ c.new-pooled.ensures,
      same_slots q old new c.push_as.ensures.queue.0 rule.1 ∙ is,
      subst (λ (l : PoolPort _). IsRefusal fit l (Full c.open.result)) is (
        ruled_capacity q,
        refl,
        was_full fit (view old) (ruled_capacity q) rule.2.0 (rule.2.1 ∙ ap (λ r. ruled_capacity r) c.deref.ensures) rule.2.2,
      ),
    )

-- ---- the injector of a stealing one

pub push_as-requires-in-Unbounded-clause-rule : goal.push_as-requires-in-Unbounded-clause-rule
push_as-requires-in-Unbounded-clause-rule g c =
    let fit = IsUntouched g.H.MailboxState.is_of g.H.MailboxState.facts in
    let is = ap port_view c.in-Unbounded.is ∙ sym c.port-in-Unbounded.view_is in
    deque_push fit _ _ _ (subst (λ (l : PoolPort _). 0 < l.ledger.shares) is c.requires.share)
    (subst (λ x. fit (injector_view c.port-in-Unbounded.inside.pass).gates x) (sym c.new-pooled.ensures)
    (subst (λ (l : PoolPort _). fit l.ledger.gates c.args.claim) is c.requires.untouched))

pub returns-in-Ok-push_as-clause-pushed : goal.returns-in-Ok-push_as-clause-pushed
returns-in-Ok-push_as-clause-pushed g c =
    let fit = IsUntouched g.H.MailboxState.is_of g.H.MailboxState.facts in let new = injector_view c.push_as-in-Unbounded.new.pass in
    subst (λ (l : PoolPort _). PutsLast fit l.ledger c.args.claim new) (c.port-in-Unbounded.view_is ∙ sym (ap port_view c.in-Unbounded.is))
    (subst (λ x. PutsLast fit (injector_view c.port-in-Unbounded.inside.pass) x new) c.new-pooled.ensures (put fit _ _ _ c.in-Ok-push_as.ensures.rule))
