use Rattle.std.proofs.Common.{◌≡◌, MatchResult, subst, sym}
use Rattle.mb_pool.specs.Moves.{given_back, IsRefusedBy, Pushes}
use Rattle.mb_pool.specs.Parts.{port_view}
use Rattle.mb_pool.specs.Places.{gates_of, parts_of}
use Rattle.mb_gate.specs.Untouched.{IsUntouched}
use Rattle.mb_pool.specs.Endpoints.{endpoint_of}
use Rattle.mb_pool.proofs.Ports.{still_open}
use Rattle.mb_pool.proofs.handle.PoolHandle.push.Goals as goal

pub push_first-requires-clause-untouched : goal.push_first-requires-clause-untouched
push_first-requires-clause-untouched g c =
    subst (λ w. IsUntouched g.H.MailboxState.is_of g.H.MailboxState.facts (gates_of w) c.args.claim) (sym c.self.view_is) c.requires.untouched

pub invariant_of-self : goal.invariant_of-self
invariant_of-self g c = still_open (endpoint_of (port_view c.self.inside.shared_port) c.self.inside.member)
    (endpoint_of (port_view c.push_first.new.shared_port) c.push_first.new.member) c.push_first.ensures.same c.self.invariant

pub returns-clause-pushed : goal.returns-clause-pushed
returns-clause-pushed g c =
    let new = endpoint_of (port_view c.push_first.new.shared_port) c.push_first.new.member in
    subst (λ w. MatchResult c.push_first.result
    (λ _. Pushes (IsUntouched g.H.MailboxState.is_of g.H.MailboxState.facts) w c.args.claim new) (λ f. (given_back f ≡ c.args.claim) × (new ≡ w)
    × IsRefusedBy (IsUntouched g.H.MailboxState.is_of g.H.MailboxState.facts) w f))
    c.self.view_is c.push_first.ensures.pushed

pub returns-clause-same : goal.returns-clause-same
returns-clause-same g c = subst
    (λ w. parts_of (endpoint_of (port_view c.push_first.new.shared_port) c.push_first.new.member) ≡ parts_of w) c.self.view_is c.push_first.ensures.same
