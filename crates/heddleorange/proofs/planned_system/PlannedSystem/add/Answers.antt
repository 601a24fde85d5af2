use Rattle.std.proofs.Common.{◌≡◌, ◌⊎◌, ℕ, List, [], inl, inr, length, refl, subst}
use Rattle.std.specs.Prelude.{IfOk}
use Rattle.mb_msg.specs.declared.id.ActorId.{ActorId}
use Rattle.mb_build.specs.declared.check.PlanError.TheVariants.{Actors, Parent}
use Rattle.heddleorange.specs.Added.{Adds}
use Rattle.heddleorange.specs.declared.error.Error.{Error}
use Rattle.heddleorange.specs.declared.error.Error.TheVariants.{BadPlan, NoMemory}
use Rattle.heddleorange.proofs.AddingOne.{all-unused, or-more, placed, placed-before, refused-too}
use Rattle.heddleorange.proofs.PassedOn.{none-of-err, unchanged}
use Rattle.heddleorange.proofs.Sent.{err-of, err-weaker}
use Rattle.heddleorange.proofs.planned_system.PlannedSystem.add.Goals as goal

abbrev MayBe : Error → Type 0
MayBe e = (e ≡ BadPlan Actors) ⊎ ((id : ActorId) × (e ≡ BadPlan (Parent id))) ⊎ (e ≡ NoMemory)

pub returns-in_err-check_place : goal.returns-in_err-check_place
returns-in_err-check_place g c =
    let result = c.from_residual.result in let error = c.in_err-check_place.field-0.0 in let passed = c.from_residual.ensures.1 in
    let checked = c.check_place in record {
      added = none-of-err _ result error passed;
      unchanged = unchanged result error passed (record { same = (refl, refl); same_names = refl });
      settings = refl;
      refused = refused-too (length c.args.self.now.actors.items) c.args.plan.parent checked.result result error c.in_err-check_place.was passed
          checked.ensures.refused;
      errors = err-of MayBe result error passed (or-more c.in_err-check_place.ensures.errors);
      unused = λ all. all;
    }

pub returns-in_err-name : goal.returns-in_err-name
returns-in_err-name g c =
    let result = c.from_residual-in_err-name.result in let error = c.in_err-name.field-0.0 in let passed = c.from_residual-in_err-name.ensures.1 in
    let fits = c.in_ok-check_place.ensures.fits in record {
      added = none-of-err _ result error passed;
      unchanged = unchanged result error passed (record { same = (refl, refl); same_names = refl });
      settings = refl;
      refused = placed-before (length c.args.self.now.actors.items) c.args.plan.parent result error passed (inl c.in_err-name.ensures.error) fits.0 fits.1;
      errors = err-of MayBe result error passed (inr (inr c.in_err-name.ensures.error));
      unused = λ all. all;
    }

pub push-requires : goal.push-requires
push-requires g c = record { not_full = c.in_ok-check_place.ensures.fits.0 }

pub returns : goal.returns
returns g c =
    let named = c.in_ok-name.ensures in let pushed = c.push.ensures in let result = c.push.result in let old = c.args.self.now in
    let new = c.push.new.self in let fits = c.in_ok-check_place.ensures.fits in
    let added = subst (λ (name : List ℕ). IfOk result (λ id. Adds old c.args.plan c.args.actor name id new)) named.named pushed.added in record {
      added = added;
      unchanged = pushed.unchanged;
      settings = pushed.settings;
      refused = placed (length old.actors.items) c.args.plan.parent result pushed.error fits.0 fits.1;
      errors = err-weaker (λ e. e ≡ NoMemory) MayBe result (λ e is. inr (inr is)) pushed.error;
      unused = all-unused (λ actor. g.A.Actor.content actor ≡ g.A.Actor.after actor []) result old new c.args.plan c.args.actor _ c.requires.unused added
          pushed.unchanged;
    }
