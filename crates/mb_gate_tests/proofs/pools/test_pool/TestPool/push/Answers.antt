use Rattle.std.proofs.Common.{◌≡◌, ◌<◌, Some, ap, arith, length, subst, sym, ◌∙◌}
use Rattle.mb_gate.specs.Untouched.{origin_of, IsUntouched}
use Rattle.mb_pool.specs.Places.{PoolEndpoint, gates_of, parts_of}
use Rattle.mb_pool.proofs.Alike.{handle_gates, still_handles}
use Rattle.mb_gate_tests.proofs.pools.test_pool.TestPool.push.Goals as goal

pub push_at_last-requires : goal.push_at_last-requires
push_at_last-requires g c =
    let s = c.args.self.now in let handle = c.index_mut.result.now in
    let lt : c.args.handle < length s.handles.items = omega (arith, c.if-handle-len.false, c.len.ensures, s.handles.ok.0) in
    let its : gates_of handle ≡ Some (origin_of s.gates) = ap (λ (w : PoolEndpoint _). gates_of w) c.index_mut.ensures.value
    ∙ handle_gates s.pool s.handles.items c.args.handle handle s.are_handles lt ∙ ap (λ o. Some o) s.same_origin in
    record {
      untouched = subst (λ o. IsUntouched g.H.MailboxState.is_of g.H.MailboxState.facts o c.in-Some.claim) (sym its) c.in-Some.ensures.untouched;
    }

pub invariant_of-self : goal.invariant_of-self
invariant_of-self g c =
    let s = c.args.self.now in let handle = c.index_mut.result.now in record {
      same_gates = c.attempt.ensures.same_gates ∙ s.same_gates;
      same_origin = s.same_origin;
      are_handles = still_handles s.pool s.handles.items c.args.handle handle c.push_at_last.new.handle
          (c.push_at_last.ensures.same ∙ ap (λ (w : PoolEndpoint _). parts_of w) c.index_mut.ensures.value) s.are_handles;
      are_feeds = s.are_feeds;
    }
