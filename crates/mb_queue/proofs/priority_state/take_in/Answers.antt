use Rattle.std.proofs.Common.{◌≡◌, length, arith, subst, sym, true, false}
use Rattle.std.proofs.lemmas.List.Sorted.{length_permutation}
use Rattle.mb_queue.specs.Port.{FifoPort}
use Rattle.mb_queue.specs.Ledger.{IsTaker}
use Rattle.mb_queue.proofs.TakenIn.{one_more, still_taker}
use Rattle.mb_queue.proofs.priority_state.take_in.Goals as goal

pub loop-choice-smaller : goal.loop-choice-smaller
loop-choice-smaller g c = let most = c.if-is_full.ensures.most in let not : length c.loop-choice.choice.waiting ≡ 1024
    → ⊥ = λ e. (let h : false ≡ true = c.if-is_full.ensures.full.1 e in cc) in
    omega (arith, not, most, length_permutation _ _ c.if-not-take_one_in.ensures.held)

pub loop-choice-preserved : goal.loop-choice-preserved
loop-choice-preserved g c = let one = c.if-not-take_one_in.ensures in (
  subst (λ (p : FifoPort). IsTaker p.ledger) (sym one.came.0) (still_taker _ _ c.loop-choice.invariant.0),
  one_more _ _ _ _ _ _ c.loop-choice.invariant.1 one,
)
