use Rattle.std.proofs.Common.{◌≡◌, MatchOption, subst}
use Rattle.std.specs.Prelude.{All, IfSome}
use Rattle.mb_pool.specs.Moves.{Takes, WasEmpty}
use Rattle.mb_pool.specs.Parts.{port_view}
use Rattle.mb_pool.specs.Places.{gates_of, ports_of, parts_of}
use Rattle.mb_gate.specs.Untouched.{IsUntouched}
use Rattle.mb_pool.specs.Endpoints.{endpoint_of}
use Rattle.mb_pool.proofs.Ports.{still_open, take_fits}
use Rattle.mb_pool.proofs.handle.PoolHandle.take.Goals as goal

pub invariant_of-self : goal.invariant_of-self
invariant_of-self g c = still_open (endpoint_of (port_view c.self.inside.shared_port) c.self.inside.member)
    (endpoint_of (port_view c.take_first.new.shared_port) c.take_first.new.member) c.take_first.ensures.same c.self.invariant

pub returns-clause-taken : goal.returns-clause-taken
returns-clause-taken g c =
    let new = endpoint_of (port_view c.take_first.new.shared_port) c.take_first.new.member in
    subst (λ w. MatchOption c.take_first.result ((new ≡ w) × All (WasEmpty
    (IsUntouched g.H.MailboxState.is_of g.H.MailboxState.facts))
    (ports_of w)) (λ x. Takes (IsUntouched g.H.MailboxState.is_of g.H.MailboxState.facts) w x new)) c.self.view_is c.take_first.ensures.taken

pub returns-clause-untouched : goal.returns-clause-untouched
returns-clause-untouched g c =
    let old = endpoint_of (port_view c.self.inside.shared_port) c.self.inside.member in
    subst (λ w. IfSome c.take_first.result
    (λ x. IsUntouched g.H.MailboxState.is_of g.H.MailboxState.facts
    (gates_of w) x)) c.self.view_is
    (take_fits (IsUntouched g.H.MailboxState.is_of g.H.MailboxState.facts) old (endpoint_of
    (port_view c.take_first.new.shared_port) c.take_first.new.member) c.take_first.result _ c.self.invariant
    c.take_first.ensures.taken)

pub returns-clause-same : goal.returns-clause-same
returns-clause-same g c = subst
    (λ w. parts_of (endpoint_of (port_view c.take_first.new.shared_port) c.take_first.new.member) ≡ parts_of w) c.self.view_is c.take_first.ensures.same
