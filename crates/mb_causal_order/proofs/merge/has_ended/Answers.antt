use Rattle.std.proofs.Common.{arith}
use Rattle.mb_causal_order.proofs.merge.has_ended.Goals as goal

pub returns-in-Died-clause-unended : goal.returns-in-Died-clause-unended
returns-in-Died-clause-unended c = λ no who sends before order accounted fewer ended.
    let left = c.is_past.ensures.within no who sends order accounted in
    let at = rw c.in-Died.is at ended in
    let all = at left.0 in
    let most = fewer.each c.in-Died.id.0 in
    let less = left.1 in
    omega (arith, all, most, less)
