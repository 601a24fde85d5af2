use Rattle.std.proofs.Common.{◌≡◌, List, ◌++◌, arith, drop, length, subst, sym, take}
use Rattle.std.specs.Prelude.{IsPermutation}
use Rattle.mb_pool.specs.Made.{IsWhole}
use Rattle.mb_pool.specs.Places.{AreAllHandles, AreHandles, PoolEndpoint}
use Rattle.mb_pool.proofs.InOrder.{left_in_any_order}
use Rattle.mb_pool.proofs.Lent.{refilled}
use Rattle.mb_pool.proofs.leaving.remaining.Goals as goal

pub put_in_order-requires-clause-whole : goal.put_in_order-requires-clause-whole
put_in_order-requires-clause-whole g c = subst (λ p. IsWhole p) c.pool.view_is c.pool.invariant

pub put_in_order-requires-clause-all : goal.put_in_order-requires-clause-all
put_in_order-requires-clause-all g c = subst (AreAllHandles c.args.pool) (sym c.as_mut_slice.ensures.value) c.requires.handles

pub empty_all-requires-clause-whole : goal.empty_all-requires-clause-whole
empty_all-requires-clause-whole g c = subst (λ p. IsWhole p) c.pool.view_is c.pool.invariant

pub empty_all-requires-clause-handles : goal.empty_all-requires-clause-handles
empty_all-requires-clause-handles g c =
    let v = c.args.handles in let new = c.put_in_order.new.handles in
    let count : length new ≡ v.len = omega (arith, c.put_in_order.auto.handles, c.as_mut_slice.ensures.len) in
    subst (AreHandles c.args.pool) (sym (refilled v.len v.items new count)) c.put_in_order.ensures.in_order

pub returns-clause-left : goal.returns-clause-left
returns-clause-left g c =
    let v = c.args.handles in let new = c.put_in_order.new.handles in
    let count : length new ≡ v.len = omega (arith, c.put_in_order.auto.handles, c.as_mut_slice.ensures.len) in
    let now = take v.len (new ++ drop (length new) v.items) in let is = refilled v.len v.items new count in
    let moved = subst (λ (y : List (PoolEndpoint _) × List (PoolEndpoint _)). IsPermutation y.0 y.1)
    (λ i. (c.as_mut_slice.ensures.value i, sym is i)) c.put_in_order.ensures.same in
    left_in_any_order v.items now c.args.feeds.items c.empty_all.result.items moved c.empty_all.ensures.left
