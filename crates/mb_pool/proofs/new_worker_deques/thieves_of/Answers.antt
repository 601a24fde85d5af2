use Rattle.std.proofs.Common.{◌≡◌, ◌<◌, ap, arith, length, map, subst, sym, ◌∙◌}
use Rattle.std.specs.Prelude.{All}
use Rattle.std.specs.declared.vec.Vec.{Vec}
use Rattle.mb_pool.specs.Begins.{borrowed, borrowed_next, lent}
use Rattle.mb_pool.specs.Places.{PoolPort, numbers}
use Rattle.mb_pool.proofs.Begins.{rotated, rotated_all, rotated_none}
use Rattle.mb_pool.proofs.Lending.{borrowed_of_next, next_may_lend, one_there, some_there, turned}
use Rattle.mb_pool.proofs.Loops.{lists_more}
use Rattle.mb_pool.proofs.new_worker_deques.thieves_of.Goals as goal

pub loop-handle-init : goal.loop-handle-init
loop-handle-init g c = (sym (rotated_none c.args.owns.now c.requires), ap (map (λ (w : Vec _ _). w.items)) c.in_ok-lists.ensures.items)

pub split_at_mut-next-requires : goal.split_at_mut-next-requires
split_at_mut-next-requires g c =
    let at = c.loop-handle in let lt : at.handle < length c.args.owns.now = omega (arith, c.loop-handle-test.true) in
    some_there c.args.owns.now at.owns at.handle at.invariant.0 lt

pub lend_each-requires : goal.lend_each-requires
lend_each-requires g c =
    let at = c.loop-handle in let lt : at.handle < length c.args.owns.now = omega (arith, c.loop-handle-test.true) in
    subst (λ ls. All (λ (l : PoolPort _). 1 < l.ledger.shares) ls) (sym c.split_at_mut-next.ensures.back)
    (next_may_lend c.args.owns.now at.owns at.handle at.invariant.0 lt)

pub rotate_left-requires : goal.rotate_left-requires
rotate_left-requires g c = one_there c.split_at_mut-next.result.0.now c.lend_each.new.owns c.split_at_mut-next.ensures.front_len

pub loop-handle-preserved : goal.loop-handle-preserved
loop-handle-preserved g c =
    let at = c.loop-handle in let lt : at.handle < length c.args.owns.now = omega (arith, c.loop-handle-test.true) in
    let old = c.args.owns.now in let next = c.split_at_mut-next.ensures.back in let v = c.in_ok-thieves.thieves in (
      turned old at.owns at.handle at.invariant.0 lt c.split_at_mut-next.result.0.now c.lend_each.new.owns c.rotate_left.new.self
          c.split_at_mut-next.ensures.front
          (c.in_ok-thieves.ensures.owns ∙ ap (map lent) next) c.rotate_left.ensures.after,
      lists_more (λ (w : Vec _ _). w.items) old at.lists.items c.push.new.self.items v at.handle at.invariant.1
          (c.in_ok-thieves.ensures.stealers ∙ ap (map borrowed) next
          ∙ borrowed_of_next old at.owns at.handle at.invariant.0 lt) c.in_ok-push.ensures.items,
    )

pub returns-clause-owns : goal.returns-clause-owns
returns-clause-owns g c = let at = c.loop-handle in let old = c.args.owns.now in
    let handle : at.handle ≡ length old = omega (arith, c.loop-handle-test.false, at.auto.handle-end) in
    at.invariant.0 ∙ ap (rotated old) handle ∙ rotated_all old

pub returns-clause-lists : goal.returns-clause-lists
returns-clause-lists g c = let at = c.loop-handle in let old = c.args.owns.now in
    let handle : at.handle ≡ length old = omega (arith, c.loop-handle-test.false, at.auto.handle-end) in
    at.invariant.1 ∙ ap (λ n. map (borrowed_next old) (numbers 0 n)) handle
