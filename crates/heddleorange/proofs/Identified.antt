-- Plans that are right, and who their actors are.
use Rattle.std.proofs.Common.{◌≡◌, ◌==◌, ℕ, zero, suc, ◌+◌, Bool, true, false, List, [], ◌∷◌, ◌++◌, length, refl, sym, ap, ◌∙◌, Some, arith}
use Rattle.std.specs.Prelude.{nat_lt, slice_get}
use Rattle.std.proofs.lemmas.Bool.Decides.{nat_tests}
use Rattle.std.proofs.lemmas.Option.{none-some, same_Some}
use Rattle.mb_build.specs.Identities.{planned, planned_from}
use Rattle.mb_build.specs.Planned.{actors_in}
use Rattle.mb_build.specs.Reasons.{bad_bounds, bad_numbers, bad_parents, reasons, unless}
use Rattle.mb_build.specs.declared.check.PlanError.{PlanError}
use Rattle.mb_build.specs.declared.check.PlanError.TheVariants.{Actors, Boxes}
use Rattle.mb_journal.specs.Identity.{Identity, is_guardian}
use Rattle.mb_msg.specs.declared.id.ActorId.{ActorId}
use Rattle.mb_msg.specs.declared.journal_mode.JournalMode.{JournalMode}
use Rattle.mb_msg.specs.declared.plan.Plan.{Plan}
use Rattle.mb_msg.specs.declared.strategy.Strategy.{Strategy}

no-reason : (holds : Bool) (reason : PlanError) (rest : List PlanError) → unless holds reason ++ rest ≡ [] → (holds ≡ true) × (rest ≡ [])
no-reason true reason rest none = (refl, none)
no-reason false reason rest none = absurd (cc)

equal : (m n : ℕ) → (m == n) ≡ true → m ≡ n
equal m n is = grind (arith, nat_tests)

-- a plan that is right plans as many actors as are handed in
pub as-planned : (plan : Plan) (actors : ℕ) → reasons plan actors ≡ [] → length plan.actors.items ≡ actors
as-planned plan actors none =
    let rest = bad_parents 1 plan.actors.items ++ (bad_bounds 1 plan.actors.items ++ bad_numbers plan) in
    let first = no-reason (nat_lt (length plan.actors.items) 64) Actors (unless (length plan.actors.items == actors) Boxes ++ rest) none in
    equal (length plan.actors.items) actors (no-reason (length plan.actors.items == actors) Boxes rest first.1).0

-- who the actor of a number is
planned-at : (actors : ℕ) (mode : JournalMode) (limit : ℕ) (all : List ActorId) (number : ℕ) (parents : List ActorId) (strategies : List Strategy) (place : ℕ) (who : Identity)
    → slice_get (planned_from actors mode limit all number parents strategies) place ≡ Some who
    → (who.this.0 ≡ number + place) × (is_guardian who ≡ false) × (who.actors ≡ actors)
planned-at actors mode limit all number [] [] place who is = absurd (none-some who is)
planned-at actors mode limit all number [] (s ∷ strategies) place who is = absurd (none-some who is)
planned-at actors mode limit all number (p ∷ parents) [] place who is = absurd (none-some who is)
planned-at actors mode limit all number (p ∷ parents) (s ∷ strategies) zero who is =
    let same = sym (same_Some (planned actors mode limit all number p s) who is) in (
      ap (λ (w : Identity). w.this.0) same ∙ (let e : number ≡ number + 0 = omega arith in e),
      ap is_guardian same,
      ap (λ (w : Identity). w.actors) same,
    )
planned-at actors mode limit all number (p ∷ parents) (s ∷ strategies) (suc place) who is =
    let rest = planned-at actors mode limit all (number + 1) parents strategies place who is in let this = rest.0 in
    (omega (arith, this), rest.1, rest.2)

pub actor-at : (plan : Plan) (place : ℕ) (who : Identity) → slice_get (actors_in plan) (suc place) ≡ Some who
    → (who.this.0 ≡ suc place) × (is_guardian who ≡ false) × (who.actors ≡ length plan.actors.items + 1)
actor-at plan place who is =
    let at = planned-at (length plan.actors.items + 1) plan.journal plan.journal_limit _ 1 _ _ place who is in let this = at.0 in (omega (arith, this), at.1, at.2)

pub number-at : (plan : Plan) (id : ℕ) (who : Identity) → slice_get (actors_in plan) id ≡ Some who → who.this.0 ≡ id
number-at plan zero who is = ap (λ (w : Identity). w.this.0) (sym (same_Some _ who is))
number-at plan (suc place) who is = (actor-at plan place who is).0
