use Rattle.std.proofs.Common.{◌∙◌, ap, subst, sym}
use Rattle.mb_pool.specs.Endpoints.{endpoint_of}
use Rattle.mb_pool.specs.Parts.{port_view}
use Rattle.mb_gate.specs.Untouched.{IsUntouched}
use Rattle.mb_pool.specs.Moves.{Pushes}
use Rattle.mb_pool.specs.Places.{gates_of, parts_of}
use Rattle.mb_pool.specs.PoolPorts.{IsRefusedByPool}
use Rattle.mb_pool.specs.WorkerPorts.{WorkerPortView}
use Rattle.mb_pool.proofs.WorkerPortLemmas.{logged-more, stays-fit}
use Rattle.mb_pool.proofs.worker_port.WorkerPort.push_waiting.Goals as goal

pub push_first-requires-clause-untouched : goal.push_first-requires-clause-untouched
push_first-requires-clause-untouched g c =
    subst (λ (v : WorkerPortView _). IsUntouched g.H.MailboxState.is_of g.H.MailboxState.facts (gates_of v.handle) c.args.claim) (sym c.self.view_is)
    c.requires.untouched

pub invariant_of-self : goal.invariant_of-self
invariant_of-self g c =
    stays-fit (IsUntouched g.H.MailboxState.is_of g.H.MailboxState.facts) (endpoint_of (port_view c.self.inside.shared_port) c.self.inside.member) (endpoint_of (port_view c.push_first.new.shared_port) c.push_first.new.member) c.self.inside.next c.push_first.ensures.same c.self.invariant

pub invariant_of-self-in-Err : goal.invariant_of-self-in-Err
invariant_of-self-in-Err g c =
    stays-fit (IsUntouched g.H.MailboxState.is_of g.H.MailboxState.facts) (endpoint_of (port_view c.self.inside.shared_port) c.self.inside.member) (endpoint_of (port_view c.push_first.new.shared_port) c.push_first.new.member) c.self.inside.next c.push_first.ensures.same c.self.invariant

pub returns-in-Ok-clause-pushed : goal.returns-in-Ok-clause-pushed
returns-in-Ok-clause-pushed g c = (
  logged-more c.self.inside.pushed c.add.new.self c.of-known.result c.args.claim c.args.self.now.pushed
      (ap (λ (v : WorkerPortView _). v.pushed) c.self.view_is) c.add.ensures c.of-known.ensures,
  ap (λ (v : WorkerPortView _). v.refused) c.self.view_is,
)

pub returns-in-Ok-clause-put : goal.returns-in-Ok-clause-put
returns-in-Ok-clause-put g c =
    subst (λ (v : WorkerPortView _). Pushes (IsUntouched g.H.MailboxState.is_of g.H.MailboxState.facts) v.handle c.args.claim (endpoint_of (port_view c.push_first.new.shared_port) c.push_first.new.member))
    c.self.view_is c.in-Ok.ensures.pushed

pub returns-in-Ok-clause-kept : goal.returns-in-Ok-clause-kept
returns-in-Ok-clause-kept g c = (ap (λ (v : WorkerPortView _). v.next) c.self.view_is, ap (λ (v : WorkerPortView _). v.taken) c.self.view_is)

pub returns-in-Ok-clause-parts : goal.returns-in-Ok-clause-parts
returns-in-Ok-clause-parts g c = c.push_first.ensures.same ∙ ap (λ (v : WorkerPortView _). parts_of v.handle) c.self.view_is

pub returns-in-Err-clause-pushed : goal.returns-in-Err-clause-pushed
returns-in-Err-clause-pushed g c = (
  c.into_claim-claim.ensures ∙ c.in-Err.ensures.pushed.0,
  ap (λ (v : WorkerPortView _). v.pushed) c.self.view_is,
  logged-more c.self.inside.refused c.add-in-Err.new.self c.of-known.result c.args.claim c.args.self.now.refused
      (ap (λ (v : WorkerPortView _). v.refused) c.self.view_is) c.add-in-Err.ensures c.of-known.ensures,
)

pub returns-in-Err-clause-put : goal.returns-in-Err-clause-put
returns-in-Err-clause-put g c = (
  subst (λ (v : WorkerPortView _). IsRefusedByPool (IsUntouched g.H.MailboxState.is_of g.H.MailboxState.facts) v.handle c.args.claim) c.self.view_is
      (c.in-Err.refused, c.in-Err.ensures.pushed.0, c.in-Err.ensures.pushed.2),
  c.in-Err.ensures.pushed.1 ∙ ap (λ (v : WorkerPortView _). v.handle) c.self.view_is,
)

pub returns-in-Err-clause-kept : goal.returns-in-Err-clause-kept
returns-in-Err-clause-kept g c = (ap (λ (v : WorkerPortView _). v.next) c.self.view_is, ap (λ (v : WorkerPortView _). v.taken) c.self.view_is)

pub returns-in-Err-clause-parts : goal.returns-in-Err-clause-parts
returns-in-Err-clause-parts g c = c.push_first.ensures.same ∙ ap (λ (v : WorkerPortView _). parts_of v.handle) c.self.view_is
