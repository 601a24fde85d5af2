use Rattle.std.proofs.Common.{◌≡◌, length, map, take, vec_capacity}
use Rattle.mb_causal_order.proofs.planned_cells.parents_of.Given as goal

abbrev pub invariant-loop-plan : goal.invariant-loop-plan
invariant-loop-plan l = (l.parents.items ≡ map (λ a. a.parent) (take l.plan-index l.plans))
    × (length l.parents.items ≡ l.plan-index) × (vec_capacity l.parents ≡ length l.plans)
