use Rattle.std.proofs.Common.{◌≡◌, ◌∙◌, [], ◌∷◌, ◌++◌, subst, sym, refl}
use Rattle.std.specs.Global.{Box}
use Rattle.std.specs.Prelude.{Option, Some, option_to_list}
use Rattle.mb_gate.specs.Untouched.{Origin}
use Rattle.mb_home.specs.Contents.{Contents}
use Rattle.mb_home.specs.Fresh.{IsFreshClaim}
use Rattle.mb_system.specs.Members.{claims_taken}
use Rattle.mb_dispatch.specs.Claims.{RunsEachClaim}
use Rattle.mb_dispatch.specs.Found.{FoundPoolEmpty}
use Rattle.mb_dispatch.proofs.Claims.{claims-none, claims-then, claims-took}
use Rattle.mb_dispatch.proofs.working.wait.Goals as goal

pub loop-init : goal.loop-init
loop-init g c = (refl, refl, refl, refl, claims-none c.args.handle.now)

pub loop-preserved : goal.loop-preserved
loop-preserved g c =
    let same = c.take.ensures.same in let at = c.loop.invariant in (
      same.0 ∙ at.0,
      same.1 ∙ at.1,
      same.2 ∙ at.2,
      same.3 ∙ at.3,
      subst (RunsEachClaim c.args.handle.now) (sym c.in_default.ensures.none.0) at.4,
    )

pub returns-in-Some-take-clause-untouched : goal.returns-in-Some-take-clause-untouched
returns-in-Some-take-clause-untouched g c =
    subst (λ (o : Option (Origin (Box Contents))). IsFreshClaim g.K.Behaviours.gives o c.in-Some-take.claim) c.loop.invariant.2 c.in-Some-take.ensures.untouched

pub returns-in-Some-take-clause-empty : goal.returns-in-Some-take-clause-empty
returns-in-Some-take-clause-empty g c = tt

pub returns-in-Some-take-clause-same : goal.returns-in-Some-take-clause-same
returns-in-Some-take-clause-same g c =
    let same = c.take.ensures.same in let at = c.loop.invariant in (same.0 ∙ at.0, same.1 ∙ at.1, same.2 ∙ at.2, same.3 ∙ at.3)

pub returns-then-is_over-clause-untouched : goal.returns-then-is_over-clause-untouched
returns-then-is_over-clause-untouched g c = tt

pub returns-then-is_over-clause-empty : goal.returns-then-is_over-clause-empty
returns-then-is_over-clause-empty g c =
    let none = c.in_default.ensures.none in subst (FoundPoolEmpty g.K.Behaviours.gives) (sym none.0) (none.1, none.2)

pub returns-then-is_over-clause-same : goal.returns-then-is_over-clause-same
returns-then-is_over-clause-same g c =
    let same = c.take.ensures.same in let at = c.loop.invariant in (same.0 ∙ at.0, same.1 ∙ at.1, same.2 ∙ at.2, same.3 ∙ at.3)

pub returns-in-Some-take-clause-claims : goal.returns-in-Some-take-clause-claims
returns-in-Some-take-clause-claims g c =
    let took = c.take.ensures in let claim = Some c.in-Some-take.claim in
    claims-then (c.in-Some-take.claim ∷ []) c.args.handle.now c.loop.handle c.take.new.self c.loop.invariant.4
    (claims-took claim c.loop.handle c.take.new.self took.same.0 took.account (subst (λ next. claims_taken c.take.new.self ≡ claims_taken c.loop.handle ++ option_to_list next) c.in-Some-take.is took.log))

pub returns-then-is_over-clause-claims : goal.returns-then-is_over-clause-claims
returns-then-is_over-clause-claims g c = subst (RunsEachClaim c.args.handle.now) (sym c.in_default.ensures.none.0) c.loop.invariant.4
