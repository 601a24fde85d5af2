use Rattle.std.proofs.Common.{All, Some, subst}
use Rattle.mb_gate.specs.Untouched.{IsUntouched}
use Rattle.mb_gate_tests.proofs.pools.test_pool.TestPool.leaves.Goals as goal

pub left-requires-clause-handles : goal.left-requires-clause-handles
left-requires-clause-handles g c = c.args.self.are_handles

pub left-requires-clause-feeds : goal.left-requires-clause-feeds
left-requires-clause-feeds g c = c.args.self.are_feeds

pub returns-in_err-claims : goal.returns-in_err-claims
returns-in_err-claims g c = tt

pub are_of-requires-clause-same_gates : goal.are_of-requires-clause-same_gates
are_of-requires-clause-same_gates g c = c.args.self.same_gates

pub are_of-requires-clause-untouched : goal.are_of-requires-clause-untouched
are_of-requires-clause-untouched g c =
    subst (λ o. All (IsUntouched g.H.MailboxState.is_of g.H.MailboxState.facts (Some o)) c.in_ok-claims.claims.items)
    c.args.self.same_origin c.in_ok-claims.ensures

pub returns : goal.returns
returns g c = tt
