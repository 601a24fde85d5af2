-- Reasons for which a plan is refused.
use Rattle.std.proofs.Common.{◌≡◌, ◌++◌, ◌∷◌, ◌&&◌, Bool, true, false, List, refl, ap}
use Rattle.mb_build.specs.Reasons.{unless}
use Rattle.mb_build.specs.declared.check.PlanError.{PlanError}

-- it is the first reason
pub is_first : (holds : Bool) (reason : PlanError) (rest : List PlanError) → holds ≡ false → unless holds reason ++ rest ≡ reason ∷ rest
is_first holds reason rest fails = ap (λ b. unless b reason ++ rest) fails

-- it is none
pub is_none_here : (holds : Bool) (reason : PlanError) (rest : List PlanError) → holds ≡ true → unless holds reason ++ rest ≡ rest
is_none_here holds reason rest is_so = ap (λ b. unless b reason ++ rest) is_so

pub second_fails : (a b : Bool) → b ≡ false → (a && b) ≡ false
second_fails true b fails = fails
second_fails false b fails = refl
