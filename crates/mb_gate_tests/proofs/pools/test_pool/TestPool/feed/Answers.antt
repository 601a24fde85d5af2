use Rattle.std.proofs.Common.{◌≡◌, ◌<◌, Some, ap, arith, length, subst, sym, ◌∙◌}
use Rattle.mb_gate.specs.Untouched.{origin_of, IsUntouched}
use Rattle.mb_pool.specs.Places.{PoolEndpoint, gates_of}
use Rattle.mb_pool.proofs.Alike.{feed_gates}
use Rattle.mb_gate_tests.proofs.pools.test_pool.TestPool.feed.Goals as goal

pub feed_at_last-requires : goal.feed_at_last-requires
feed_at_last-requires g c =
    let s = c.args.self.now in let feed = c.index_mut.result.now in
    let lt : 0 < length s.feeds.items = omega (arith, c.if-len-le0.false, c.len.ensures, s.feeds.ok.0) in
    let its : gates_of feed ≡ Some (origin_of s.gates) = ap (λ (w : PoolEndpoint _). gates_of w) c.index_mut.ensures.value
    ∙ feed_gates s.pool s.feeds.items 0 feed s.are_feeds lt ∙ ap (λ o. Some o) s.same_origin in
    record {
      untouched = subst (λ o. IsUntouched g.H.MailboxState.is_of g.H.MailboxState.facts o c.in-Some.claim) (sym its) c.in-Some.ensures.untouched;
    }
