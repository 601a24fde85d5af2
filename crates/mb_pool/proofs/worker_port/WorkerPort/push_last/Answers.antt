use Rattle.std.proofs.Common.{◌≡◌, ◌∙◌, [], ◌∷◌, ◌++◌, List, MatchResult, ap, subst, sym}
use Rattle.mb_gate.specs.declared.claim.Claim.{Claim}
use Rattle.mb_pool.specs.Endpoints.{endpoint_of}
use Rattle.mb_pool.specs.Parts.{port_view}
use Rattle.mb_gate.specs.Untouched.{IsUntouched}
use Rattle.mb_pool.specs.Moves.{Pushes}
use Rattle.mb_pool.specs.Places.{PoolEndpoint, gates_of, parts_of}
use Rattle.mb_pool.specs.PoolPorts.{IsRefusedByPool}
use Rattle.mb_pool.specs.WorkerPorts.{WorkerPortView}
use Rattle.mb_pool.proofs.WorkerPortLemmas.{logged-more, stays-fit}
use Rattle.mb_pool.proofs.worker_port.WorkerPort.push_last.Goals as goal

pub try_push_first-requires-clause-untouched : goal.try_push_first-requires-clause-untouched
try_push_first-requires-clause-untouched g c =
    subst (λ (v : WorkerPortView _). IsUntouched g.H.MailboxState.is_of g.H.MailboxState.facts (gates_of v.handle) c.args.claim) (sym c.self.view_is)
    c.requires.untouched

pub invariant_of-self : goal.invariant_of-self
invariant_of-self g c =
    stays-fit (IsUntouched g.H.MailboxState.is_of g.H.MailboxState.facts) (endpoint_of (port_view c.self.inside.shared_port) c.self.inside.member) (endpoint_of (port_view c.try_push_first.new.shared_port) c.try_push_first.new.member) c.self.inside.next c.try_push_first.ensures.same c.self.invariant

pub invariant_of-self-in-Err : goal.invariant_of-self-in-Err
invariant_of-self-in-Err g c =
    stays-fit (IsUntouched g.H.MailboxState.is_of g.H.MailboxState.facts) (endpoint_of (port_view c.self.inside.shared_port) c.self.inside.member) (endpoint_of (port_view c.try_push_first.new.shared_port) c.try_push_first.new.member) c.self.inside.next c.try_push_first.ensures.same c.self.invariant

-- ---- one attempt pushed it

pub returns-in-Ok-clause-pushed : goal.returns-in-Ok-clause-pushed
returns-in-Ok-clause-pushed g c = (
  logged-more c.self.inside.pushed c.add.new.self c.of-known.result c.args.claim c.args.self.now.pushed
      (ap (λ (v : WorkerPortView _). v.pushed) c.self.view_is) c.add.ensures c.of-known.ensures,
  ap (λ (v : WorkerPortView _). v.refused) c.self.view_is,
)

pub returns-in-Ok-clause-put : goal.returns-in-Ok-clause-put
returns-in-Ok-clause-put g c =
    subst (λ (v : WorkerPortView _). Pushes (IsUntouched g.H.MailboxState.is_of g.H.MailboxState.facts) v.handle c.args.claim (endpoint_of (port_view c.try_push_first.new.shared_port) c.try_push_first.new.member))
    c.self.view_is c.in-Ok.ensures.pushed

pub returns-in-Ok-clause-kept : goal.returns-in-Ok-clause-kept
returns-in-Ok-clause-kept g c = (ap (λ (v : WorkerPortView _). v.next) c.self.view_is, ap (λ (v : WorkerPortView _). v.taken) c.self.view_is)

pub returns-in-Ok-clause-parts : goal.returns-in-Ok-clause-parts
returns-in-Ok-clause-parts g c = c.try_push_first.ensures.same ∙ ap (λ (v : WorkerPortView _). parts_of v.handle) c.self.view_is

-- ---- it did not

pub push_waiting-requires : goal.push_waiting-requires
push_waiting-requires g c =
    let tried = c.in-Err.ensures.pushed in record {
      untouched = subst (λ (y : PoolEndpoint _ × Claim _). IsUntouched g.H.MailboxState.is_of g.H.MailboxState.facts (gates_of y.0) y.1)
          (λ i. ((ap (λ (v : WorkerPortView _). v.handle) (sym c.self.view_is) ∙ sym tried.1) i, sym tried.0 i)) c.requires.untouched;
    }

pub returns-in-Err-clause-pushed : goal.returns-in-Err-clause-pushed
returns-in-Err-clause-pushed g c =
    let tried = c.in-Err.ensures.pushed in
    subst (λ (y : Claim _ × List (Claim _) × List (Claim _)). MatchResult c.push_waiting.result
    (λ _. (c.push_waiting.new.self.pushed ≡ y.1 ++ y.0 ∷ []) × (c.push_waiting.new.self.refused ≡ y.2))
    (λ back. (back.claim ≡ y.0) × (c.push_waiting.new.self.pushed ≡ y.1) × (c.push_waiting.new.self.refused ≡ y.2 ++ y.0 ∷ [])))
    (λ i. (tried.0 i, ap (λ (v : WorkerPortView _). v.pushed) c.self.view_is i, ap (λ (v : WorkerPortView _). v.refused) c.self.view_is i))
    c.push_waiting.ensures.pushed

pub returns-in-Err-clause-put : goal.returns-in-Err-clause-put
returns-in-Err-clause-put g c =
    let tried = c.in-Err.ensures.pushed in
    subst (λ (y : PoolEndpoint _ × Claim _). MatchResult c.push_waiting.result
    (λ _. Pushes (IsUntouched g.H.MailboxState.is_of g.H.MailboxState.facts) y.0 y.1 c.push_waiting.new.self.handle)
    (λ _. IsRefusedByPool (IsUntouched g.H.MailboxState.is_of g.H.MailboxState.facts) y.0 y.1 × (c.push_waiting.new.self.handle ≡ y.0)))
    (λ i. ((tried.1 ∙ ap (λ (v : WorkerPortView _). v.handle) c.self.view_is) i, tried.0 i)) c.push_waiting.ensures.put

pub returns-in-Err-clause-kept : goal.returns-in-Err-clause-kept
returns-in-Err-clause-kept g c = (
  c.push_waiting.ensures.kept.0 ∙ ap (λ (v : WorkerPortView _). v.next) c.self.view_is,
  c.push_waiting.ensures.kept.1 ∙ ap (λ (v : WorkerPortView _). v.taken) c.self.view_is,
)

pub returns-in-Err-clause-parts : goal.returns-in-Err-clause-parts
returns-in-Err-clause-parts g c =
    c.push_waiting.ensures.parts ∙ c.try_push_first.ensures.same ∙ ap (λ (v : WorkerPortView _). parts_of v.handle) c.self.view_is
