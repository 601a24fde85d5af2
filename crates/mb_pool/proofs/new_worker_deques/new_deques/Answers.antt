use Rattle.std.proofs.Common.{◌≡◌, ◌+◌, subst, sym, arith}
use Rattle.mb_pool.specs.Begins.{AreNew}
use Rattle.mb_gate.specs.Untouched.{origin_of}
use Rattle.mb_pool.proofs.Begins.{new_none, new_opened}
use Rattle.mb_pool.proofs.new_worker_deques.new_deques.Goals as goal

pub loop-number-init : goal.loop-number-init
loop-number-init g c = subst (AreNew (origin_of c.args.gates.now) c.args.count 0) (sym c.in_ok-owns.ensures.items)
    (new_none (origin_of c.args.gates.now) c.args.count)

pub loop-number-preserved : goal.loop-number-preserved
loop-number-preserved g c = subst (AreNew (origin_of c.args.gates.now) c.args.count (c.loop-number.number + 1)) (sym c.in_ok-push.ensures.items)
    (new_opened (origin_of c.args.gates.now) c.args.count c.loop-number.number c.loop-number.owns.items c.in_ok-own_deque.own_deque c.open.new.self
    c.loop-number.invariant c.in_ok-own_deque.ensures.0 c.open.ensures)

pub returns : goal.returns
returns g c = let e : c.loop-number.number ≡ c.args.count = omega (arith, c.loop-number-test.false, c.loop-number.auto.number-end) in
    subst (λ k. AreNew (origin_of c.args.gates.now) c.args.count k c.loop-number.owns.items) e c.loop-number.invariant
