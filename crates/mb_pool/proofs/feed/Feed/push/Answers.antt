use Rattle.std.proofs.Common.{◌≡◌, ◌<◌, MatchResult, subst, sym}
use Rattle.mb_pool.specs.Moves.{given_back, IsRefusedBy, Pushes}
use Rattle.mb_pool.specs.Parts.{port_view}
use Rattle.mb_pool.specs.Places.{Part, gates_of, parts_of}
use Rattle.mb_gate.specs.Untouched.{IsUntouched}
use Rattle.mb_pool.specs.Endpoints.{of_feed}
use Rattle.mb_pool.proofs.Ports.{push_by_shared_port, push_same, feed_parts}
use Rattle.mb_pool.proofs.feed.Feed.push.Goals as goal

pub push-requires-clause-untouched : goal.push-requires-clause-untouched
push-requires-clause-untouched g c =
    subst (λ w. IsUntouched g.H.MailboxState.is_of g.H.MailboxState.facts (gates_of w) c.args.claim) (sym c.self.view_is) c.requires.untouched

pub invariant_of-self : goal.invariant_of-self
invariant_of-self g c =
    let old = port_view c.self.inside.shared_port in let new = port_view c.push.new.self in
    subst (λ (p : Part _). 0 < p.shares)
    (sym (push_same (IsUntouched g.H.MailboxState.is_of g.H.MailboxState.facts) old new c.push.ensures.same_queue c.args.claim c.push.result
    c.push.ensures.pushed)) c.self.invariant

pub returns-clause-pushed : goal.returns-clause-pushed
returns-clause-pushed g c =
    let old = port_view c.self.inside.shared_port in let new = port_view c.push.new.self in
    subst (λ w. MatchResult c.push.result
    (λ _. Pushes (IsUntouched g.H.MailboxState.is_of g.H.MailboxState.facts) w c.args.claim (of_feed new)) (λ f. (given_back f ≡ c.args.claim) × (of_feed new
    ≡ w)
    × IsRefusedBy (IsUntouched g.H.MailboxState.is_of g.H.MailboxState.facts) w f))
    c.self.view_is (push_by_shared_port (IsUntouched g.H.MailboxState.is_of g.H.MailboxState.facts) old new c.push.ensures.same_queue c.args.claim c.push.result
    c.push.ensures.pushed)

pub returns-clause-same : goal.returns-clause-same
returns-clause-same g c =
    let old = port_view c.self.inside.shared_port in let new = port_view c.push.new.self in
    subst (λ w. parts_of (of_feed new) ≡ parts_of w) c.self.view_is (feed_parts old new
    (push_same (IsUntouched g.H.MailboxState.is_of g.H.MailboxState.facts) old new c.push.ensures.same_queue c.args.claim c.push.result c.push.ensures.pushed))
