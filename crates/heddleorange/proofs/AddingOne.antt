-- Adding an actor that has its name: what the last step says answers for the whole.
use Rattle.std.proofs.Common.{◌≡◌, ◌⊎◌, inl, inr, ℕ, ◌+◌, ◌<◌, ◌≤◌, List, arith, sym, subst}
use Rattle.std.specs.Prelude.{◌↔◌, All, Err, IfErr, IfOk, IsErrAnd, Ok, OnErr, Result}
use Rattle.std.proofs.lemmas.List.Elements.{All-push}
use Rattle.mb_msg.specs.declared.actor_plan.ActorPlan.{ActorPlan}
use Rattle.mb_msg.specs.declared.id.ActorId.{ActorId}
use Rattle.mb_build.specs.declared.check.PlanError.{PlanError}
use Rattle.mb_build.specs.declared.check.PlanError.TheVariants.{Actors, Parent}
use Rattle.heddleorange.specs.Added.{Adds, AddsNothing, RefusesPlace}
use Rattle.heddleorange.specs.declared.error.Error.{Error}
use Rattle.heddleorange.specs.declared.error.Error.TheVariants.{BadPlan, NameTaken, NoMemory}
use Rattle.heddleorange.specs.declared.planned_system.PlannedSystem.{PlannedSystem}
use Rattle.heddleorange.proofs.PassedOn.{same-error}

-- an actor that finds no place is not refused for its name
pub other-than-taken : (e : Error) (id : ActorId) → (e ≡ BadPlan Actors) ⊎ ((own : ActorId) × (e ≡ BadPlan (Parent own))) → e ≡ NameTaken id → ⊥
other-than-taken e id (inl is) taken = absurd (cc)
other-than-taken e id (inr (own, is)) taken = absurd (cc)

-- one that gets no name is not refused for its plan
other-than-plan : (e : Error) (reason : PlanError) → (e ≡ NoMemory) ⊎ ((id : ActorId) × (e ≡ NameTaken id)) → e ≡ BadPlan reason → ⊥
other-than-plan e reason (inl is) planned = absurd (cc)
other-than-plan e reason (inr (id, is)) planned = absurd (cc)

pub or-more : {A B C : Type 0} → A ⊎ B → A ⊎ B ⊎ C
or-more (inl a) = inl a
or-more (inr b) = inr (inl b)

module _ {T : Type 0} where
  -- the last step may only find that memory is refused
  pub another-error : (X : Type 0) (r : Result T Error) (x : Error) → IfErr r (λ y. y ≡ NoMemory) → (NoMemory ≡ x → ⊥) → (X → ⊥) → ((r ≡ Err x) ↔ X)
  another-error X (Ok t) x only other none = (λ q. absurd (cc), λ it. absurd (none it))
  another-error X (Err y) x only other none = (λ q. absurd (other (cc)), λ it. absurd (none it))

  -- a step before the last found an error, which is not this one
  pub refused-before : (X : Type 0) (r : Result T Error) (e x : Error) → IsErrAnd r (λ y. y ≡ e) → (e ≡ x → ⊥) → (X → ⊥) → ((r ≡ Err x) ↔ X)
  refused-before X (Ok t) e x passed other none = absurd passed
  refused-before X (Err y) e x passed other none = (λ q. absurd (other (cc)), λ it. absurd (none it))

module _ (there : ℕ) (wanted : ActorId) where
  -- where no place is found, there is no room or no parent
  pub no-place : {S : Type 0} (step : Result S Error) (e : Error) → step ≡ Err e
      → (e ≡ BadPlan Actors) ⊎ ((own : ActorId) × (e ≡ BadPlan (Parent own))) → RefusesPlace there wanted step → there < 63 → wanted.0 ≤ there → ⊥
  no-place step e was (inl is) refused few fits =
      let many : 63 ≤ there = refused.full.0 (cc) in omega (arith, many, few)
  no-place step e was (inr (own, is)) refused few fits =
      let bad : (there < 63) × (there < wanted.0) × (own.0 ≡ there + 1) = (refused.parent own).0 (cc) in let beyond = bad.1 in omega (arith, beyond, fits)

  module _ {T : Type 0} where
    -- a place was found, and the last step may only find that memory is refused
    pub placed : (r : Result T Error) → IfErr r (λ y. y ≡ NoMemory) → there < 63 → wanted.0 ≤ there → RefusesPlace there wanted r
    placed r only few fits = record {
      full = another-error (63 ≤ there) r (BadPlan Actors) only (λ q. absurd (cc)) (λ many. omega (arith, many, few));
      parent = λ id. another-error ((there < 63) × (there < wanted.0) × (id.0 ≡ there + 1)) r (BadPlan (Parent id)) only (λ q. absurd (cc))
          (λ bad. let beyond = bad.1 in omega (arith, beyond, fits));
    }

    -- or a step before the last found that there is no name
    pub placed-before : (r : Result T Error) (e : Error) → IsErrAnd r (λ y. y ≡ e) → (e ≡ NoMemory) ⊎ ((id : ActorId) × (e ≡ NameTaken id)) → there < 63
        → wanted.0 ≤ there → RefusesPlace there wanted r
    placed-before r e passed errors few fits = record {
      full = refused-before (63 ≤ there) r e (BadPlan Actors) passed (other-than-plan e Actors errors) (λ many. omega (arith, many, few));
      parent = λ id. refused-before ((there < 63) × (there < wanted.0) × (id.0 ≡ there + 1)) r e (BadPlan (Parent id)) passed
          (other-than-plan e (Parent id) errors) (λ bad. let beyond = bad.1 in omega (arith, beyond, fits));
    }

    -- or the step that looked for a place found none
    pub refused-too : {S : Type 0} (step : Result S Error) (r : Result T Error) (e : Error) → step ≡ Err e → IsErrAnd r (λ y. y ≡ e)
        → RefusesPlace there wanted step → RefusesPlace there wanted r
    refused-too step r e was passed refused = record {
      full = same-error (63 ≤ there) step r e (BadPlan Actors) was passed refused.full;
      parent = λ id. same-error ((there < 63) × (there < wanted.0) × (id.0 ≡ there + 1)) step r e (BadPlan (Parent id)) was passed (refused.parent id);
    }

-- what holds of each actor that was there, and of the one that is added, holds of all
pub all-unused : {A : Type 0} (P : A → Type 0) (r : Result ActorId Error) (old new : PlannedSystem A) (plan : ActorPlan) (actor : A) (name : List ℕ)
    → P actor → IfOk r (λ id. Adds old plan actor name id new) → OnErr r (AddsNothing old new) → All P old.actors.items → All P new.actors.items
all-unused P (Ok id) old new plan actor name one added same all = subst (All P) (sym added.actors) (All-push P old.actors.items actor all one)
all-unused P (Err e) old new plan actor name one added same all = subst (All P) (sym same.same.0) all
