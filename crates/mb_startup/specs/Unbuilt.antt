-- Why there is no system.
use Rattle.std.specs.Prelude.{◌≡◌, List, [], ◌∷◌, length}
use Rattle.mb_msg.specs.declared.plan.Plan.{Plan}
use Rattle.mb_build.specs.declared.check.PlanError.{PlanError}
use Rattle.mb_build.specs.Reasons.{reasons}
use Rattle.mb_startup.specs.declared.building.BuildError.{BuildError}
use Rattle.mb_startup.specs.declared.building.BuildError.TheVariants.{BadPlan, NoMemory}

-- The plan is refused, for the first of all reasons, and comes back with the actors; or it is not refused, and memory was.
abbrev pub IsNoSystem : {A : Type 0} → Plan → List A → BuildError A → Type 0
IsNoSystem plan actors (BadPlan reason back those) = (rest : List PlanError) × (reasons plan (length actors) ≡ reason ∷ rest) × (back ≡ plan)
    × (those.items ≡ actors)
IsNoSystem plan actors NoMemory = reasons plan (length actors) ≡ []
