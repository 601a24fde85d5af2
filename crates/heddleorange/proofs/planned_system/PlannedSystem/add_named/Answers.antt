use Rattle.std.proofs.Common.{◌≡◌, ◌⊎◌, ◌<◌, ◌≤◌, ℕ, List, [], Some, inl, inr, length, refl, subst}
use Rattle.std.specs.Prelude.{IfOk}
use Rattle.mb_msg.specs.declared.id.ActorId.{ActorId}
use Rattle.mb_build.specs.declared.check.PlanError.TheVariants.{Actors, Parent}
use Rattle.heddleorange.specs.Added.{Adds}
use Rattle.heddleorange.specs.declared.error.Error.{Error}
use Rattle.heddleorange.specs.declared.error.Error.TheVariants.{BadPlan, NameTaken, NoMemory}
use Rattle.heddleorange.specs.Names.{number_of}
use Rattle.heddleorange.proofs.AddingOne.{all-unused, another-error, no-place, or-more, other-than-taken, placed, placed-before, refused-before, refused-too}
use Rattle.heddleorange.proofs.PassedOn.{none-of-err, same-error, unchanged}
use Rattle.heddleorange.proofs.Sent.{err-of, err-weaker}
use Rattle.heddleorange.proofs.planned_system.PlannedSystem.add_named.Goals as goal

abbrev MayBe : Error → Type 0
MayBe e = (e ≡ BadPlan Actors) ⊎ ((id : ActorId) × (e ≡ BadPlan (Parent id))) ⊎ (e ≡ NoMemory) ⊎ ((id : ActorId) × (e ≡ NameTaken id))

pub returns-in_err-check_place : goal.returns-in_err-check_place
returns-in_err-check_place g c =
    let result = c.from_residual.result in let error = c.in_err-check_place.field-0.0 in let passed = c.from_residual.ensures.1 in
    let checked = c.check_place in let was = c.in_err-check_place.was in let old = c.args.self.now in let errors = c.in_err-check_place.ensures.errors in
    let there = length old.actors.items in let wanted = c.args.plan.parent in record {
      added = none-of-err _ result error passed;
      unchanged = unchanged result error passed (record { same = (refl, refl); same_names = refl });
      settings = refl;
      refused = refused-too there wanted checked.result result error was passed checked.ensures.refused;
      taken = λ id. refused-before ((there < 63) × (wanted.0 ≤ there) × (number_of old.names.texts.items c.args.name.now ≡ Some id.0))
          result error (NameTaken id) passed (other-than-taken error id errors)
          (λ held. no-place there wanted checked.result error was errors checked.ensures.refused held.0 held.1);
      errors = err-of MayBe result error passed (or-more errors);
      unused = λ all. all;
    }

pub returns-in_err-name : goal.returns-in_err-name
returns-in_err-name g c =
    let result = c.from_residual-in_err-name.result in let error = c.in_err-name.field-0.0 in let passed = c.from_residual-in_err-name.ensures.1 in
    let free = c.free_name in let was = c.in_err-name.was in let old = c.args.self.now in let errors = c.in_err-name.ensures.errors in
    let fits = c.in_ok-check_place.ensures.fits in record {
      added = none-of-err _ result error passed;
      unchanged = unchanged result error passed (record { same = (refl, refl); same_names = refl });
      settings = refl;
      refused = placed-before (length old.actors.items) c.args.plan.parent result error passed errors fits.0 fits.1;
      taken = λ id. let says = same-error _ free.result result error (NameTaken id) was passed (free.ensures.taken id) in
          (λ q. (fits.0, fits.1, says.0 q), λ held. says.1 held.2);
      errors = err-of MayBe result error passed (inr (inr errors));
      unused = λ all. all;
    }

pub push-requires : goal.push-requires
push-requires g c = record { not_full = c.in_ok-check_place.ensures.fits.0 }

pub returns : goal.returns
returns g c =
    let named = c.in_ok-name.ensures in let pushed = c.push.ensures in let result = c.push.result in let old = c.args.self.now in
    let new = c.push.new.self in let fits = c.in_ok-check_place.ensures.fits in let there = length old.actors.items in let wanted = c.args.plan.parent in
    let added = subst (λ (name : List ℕ). IfOk result (λ id. Adds old c.args.plan c.args.actor name id new)) named.named pushed.added in record {
      added = added;
      unchanged = pushed.unchanged;
      settings = pushed.settings;
      refused = placed there wanted result pushed.error fits.0 fits.1;
      taken = λ id. another-error ((there < 63) × (wanted.0 ≤ there) × (number_of old.names.texts.items c.args.name.now ≡ Some id.0))
          result (NameTaken id) pushed.error (λ q. absurd (cc)) (λ held. let is_taken = (named.taken id).1 held.2 in absurd (cc));
      errors = err-weaker (λ e. e ≡ NoMemory) MayBe result (λ e is. inr (inr (inl is))) pushed.error;
      unused = all-unused (λ actor. g.A.Actor.content actor ≡ g.A.Actor.after actor []) result old new c.args.plan c.args.actor _ c.requires.unused added
          pushed.unchanged;
    }
