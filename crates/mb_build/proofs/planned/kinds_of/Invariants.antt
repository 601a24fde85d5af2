use Rattle.std.proofs.Common.{◌≡◌, length, take, vec_capacity}
use Rattle.mb_build.specs.Kinds.{AreKindsOf}
use Rattle.mb_build.proofs.planned.kinds_of.Given as goal

abbrev pub invariant-loop-plan : goal.invariant-loop-plan
invariant-loop-plan l = AreKindsOf (take l.plan-index l.plans) l.kinds.items
    × (length l.kinds.items ≡ l.plan-index) × (vec_capacity l.kinds ≡ length l.plans)
