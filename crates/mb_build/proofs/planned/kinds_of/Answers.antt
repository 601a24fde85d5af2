use Rattle.std.proofs.Common.{◌+◌, ◌∷◌, [], length, length-append, sym, ap, subst, ◌∙◌}
use Rattle.std.proofs.lemmas.Result.{IfOk-from_err}
use Rattle.mb_build.specs.Kinds.{AreKindsOf, IsKindOf}
use Rattle.mb_build.proofs.KindLemmas.{queues-next}
use Rattle.mb_build.proofs.planned.kinds_of.Goals as goal

pub loop-plan-preserved : goal.loop-plan-preserved
loop-plan-preserved c =
    let at = c.loop-plan in let kind = c.in_ok-kind.kind in let new = c.push_reserved.new.self.items in (
      queues-next c.args.plans.now at.plan-index c.plan-item.result at.kinds.items new kind c.loop-plan-test.true at.invariant.0
          (subst (λ a. IsKindOf a.mailbox kind) c.plan-item.is c.in_ok-kind.ensures) c.push_reserved.ensures.items,
      ap length c.push_reserved.ensures.items ∙ length-append at.kinds.items (kind ∷ []) ∙ ap (λ n. n + 1) at.invariant.1,
      c.push_reserved.ensures.capacity ∙ at.invariant.2,
    )

pub loop-plan-init : goal.loop-plan-init
loop-plan-init c =
    let none = c.in_ok-kinds.ensures.items in (subst (AreKindsOf []) (sym none) tt, ap length none, c.in_ok-kinds.ensures.exact)

pub returns-in_err-kinds : goal.returns-in_err-kinds
returns-in_err-kinds c = IfOk-from_err c.from_residual.result _ c.from_residual.ensures.0

pub returns-in_err-kind : goal.returns-in_err-kind
returns-in_err-kind c = IfOk-from_err c.from_residual-in_err-kind.result _ c.from_residual-in_err-kind.ensures.0
