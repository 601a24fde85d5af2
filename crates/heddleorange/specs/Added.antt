-- What adding an actor to a planned system comes to (this project's own profile: in Akka an actor is added by its parent's `actorOf`).
use Rattle.std.specs.Prelude.{◌≡◌, ◌↔◌, ℕ, ◌+◌, ◌<◌, ◌≤◌, List, [], ◌∷◌, ◌++◌, IsErrOf, Result, length}
use Rattle.mb_build.specs.declared.check.PlanError.TheVariants.{Actors, Parent}
use Rattle.mb_msg.specs.declared.actor_plan.ActorPlan.{ActorPlan}
use Rattle.mb_msg.specs.declared.id.ActorId.{ActorId}
use Rattle.heddleorange.specs.Names.{texts_of}
use Rattle.heddleorange.specs.declared.error.Error.{Error}
use Rattle.heddleorange.specs.declared.error.Error.TheVariants.{BadPlan}
use Rattle.heddleorange.specs.declared.planned_system.PlannedSystem.{PlannedSystem}

-- The actor is added behind the others with its plan and under this name, and this is its number.
pub record Adds {A : Type 0} (old : PlannedSystem A) (plan : ActorPlan) (actor : A) (name : List ℕ) (number : ActorId) (new : PlannedSystem A) : Type 0
  where
    pub id : number.0 ≡ length old.actors.items + 1
    pub actors : new.actors.items ≡ old.actors.items ++ actor ∷ []
    pub planned : new.plan.actors.items ≡ old.plan.actors.items ++ plan ∷ []
    pub named : texts_of new.names.texts.items ≡ texts_of old.names.texts.items ++ name ∷ []

-- Nothing is added.
pub record AddsNothing {A : Type 0} (old new : PlannedSystem A) : Type 0 where
  pub same : (new.actors.items ≡ old.actors.items) × (new.plan.actors.items ≡ old.plan.actors.items)
  pub same_names : new.names.texts.items ≡ old.names.texts.items

-- Where there are so many actors beside the guardian, one more with this parent is refused exactly where there are 63, or else where its parent is neither
-- the guardian nor one of them, as far as these errors tell.
pub record RefusesPlace {T : Type 0} (there : ℕ) (wanted : ActorId) (result : Result T Error) : Type 0 where
  pub full : IsErrOf result (BadPlan Actors) ↔ (63 ≤ there)
  pub parent : (id : ActorId) → IsErrOf result (BadPlan (Parent id)) ↔ ((there < 63) × (there < wanted.0) × (id.0 ≡ there + 1))
