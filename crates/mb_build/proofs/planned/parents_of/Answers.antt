use Rattle.std.proofs.Common.{◌+◌, ◌++◌, ◌∷◌, [], length, length-append, sym, ap, ◌∙◌}
use Rattle.std.proofs.lemmas.List.{map_more}
use Rattle.std.proofs.lemmas.Result.{IfOk-from_err}
use Rattle.mb_msg.specs.declared.actor_plan.ActorPlan.{ActorPlan}
use Rattle.mb_build.proofs.planned.parents_of.Goals as goal

pub loop-plan-init : goal.loop-plan-init
loop-plan-init c = (c.in_ok-parents.ensures.items, ap length c.in_ok-parents.ensures.items, c.in_ok-parents.ensures.exact)

pub loop-plan-preserved : goal.loop-plan-preserved
loop-plan-preserved c =
    let at = c.loop-plan in let plans = c.args.plans.now in let plan = c.plan-item.result in (
      c.push_reserved.ensures.items ∙ (λ i. at.invariant.0 i ++ (c.plan-item.is i).parent ∷ [])
          ∙ sym (map_more (λ (a : ActorPlan). a.parent) plans at.plan-index plan c.loop-plan-test.true),
      ap length c.push_reserved.ensures.items ∙ length-append at.parents.items (plan.parent ∷ []) ∙ ap (λ n. n + 1) at.invariant.1,
      c.push_reserved.ensures.capacity ∙ at.invariant.2,
    )

pub returns-in_err-parents : goal.returns-in_err-parents
returns-in_err-parents c = IfOk-from_err c.from_residual.result _ c.from_residual.ensures.0
