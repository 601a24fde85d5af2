-- Plans that were found right.
use Rattle.std.proofs.Common.{◌≡◌, ◌≤◌, ◌<◌, ◌==◌, ℕ, ◌+◌, Bool, true, false, if◌then◌else◌, List, [], ◌∷◌, ◌++◌, length, map, refl, arith}
use Rattle.std.specs.Prelude.{All, nat_lt}
use Rattle.std.proofs.lemmas.Bool.Decides.{nat_tests}
use Rattle.std.proofs.lemmas.List.{length-map}
use Rattle.std.proofs.lemmas.List.Elements.{All-cons, All-nil}
use Rattle.mb_msg.specs.Limits.{most_entries}
use Rattle.mb_msg.specs.declared.id.ActorId.{ActorId}
use Rattle.mb_msg.specs.declared.journal_mode.JournalMode.{JournalMode}
use Rattle.mb_msg.specs.declared.actor_plan.ActorPlan.{ActorPlan}
use Rattle.mb_msg.specs.declared.mailbox_type.MailboxType.{MailboxType}
use Rattle.mb_queue.specs.Made.{IsMakeable}
use Rattle.mb_ghost.specs.Seen.{Each}
use Rattle.mb_build.specs.Identities.{ArePlanned, children_from, id, identities, planned_from}
use Rattle.mb_build.specs.Kinds.{AreKindsOf}
use Rattle.mb_build.specs.Reasons.{bad_bounds, bad_parents, may_be_bound, unless}
use Rattle.mb_build.specs.declared.check.PlanError.{PlanError}
use Rattle.mb_build.proofs.KindLemmas.{makeable}

-- where there is no reason at all, this is none, and there is none after it
no-reason : (holds : Bool) (reason : PlanError) (rest : List PlanError) → unless holds reason ++ rest ≡ [] → (holds ≡ true) × (rest ≡ [])
no-reason true reason rest none = (refl, none)
no-reason false reason rest none = absurd (cc)

-- as many queues as plans
pub length-queues : (plans : List ActorPlan) (kinds : List MailboxType) → AreKindsOf plans kinds → length kinds ≡ length plans
length-queues [] [] are = refl
length-queues [] (k ∷ kinds) are = absurd are
length-queues (a ∷ plans) [] are = absurd are
length-queues (a ∷ plans) (k ∷ kinds) are = let rest = length-queues plans kinds are.1 in omega (arith, rest)

-- each of which can be made
pub all-makeable : (number : ℕ) (plans : List ActorPlan) (kinds : List MailboxType) → bad_bounds number plans ≡ [] → AreKindsOf plans kinds
    → All IsMakeable kinds
all-makeable number [] [] none are = All-nil IsMakeable
all-makeable number [] (k ∷ kinds) none are = absurd are
all-makeable number (a ∷ plans) [] none are = absurd are
all-makeable number (a ∷ plans) (k ∷ kinds) none are =
    let both = no-reason (may_be_bound a.mailbox) _ (bad_bounds (number + 1) plans) none in
    All-cons IsMakeable k kinds (makeable a.mailbox k both.0 are.0) (all-makeable (number + 1) plans kinds both.1 are.1)

below-if : (most : ℕ) (b : Bool) (number : ℕ) (l : List ActorId) → number < most → Each (λ (x : ActorId). x.0 < most) l
    → Each (λ (x : ActorId). x.0 < most) (if b then id number ∷ l else l)
below-if most true number l lt are = (lt, are)
below-if most false number l lt are = are

-- each child is one of the actors
children-there : (most number parent : ℕ) (parents : List ActorId) → number + length parents ≤ most
    → Each (λ (x : ActorId). x.0 < most) (children_from number parent parents)
children-there most number parent [] le = tt
children-there most number parent (p ∷ parents) le =
    below-if most (p.0 == parent) number (children_from (number + 1) parent parents) (omega (arith, le))
    (children-there most (number + 1) parent parents (omega (arith, le)))

not-zero : (number : ℕ) → 0 < number → false ≡ (number == 0)
not-zero number lt = grind (arith, nat_tests)

below : (p number : ℕ) → nat_lt p number ≡ true → p < number
below p number is = grind (arith, nat_tests)

-- the actors of a plan
planned-all : (actors : ℕ) (mode : JournalMode) (limit : ℕ) (all : List ActorId) (number : ℕ) (plans : List ActorPlan) → bad_parents number plans ≡ [] → 0 < number
    → number + length plans ≤ actors → 1 + length all ≤ actors → limit ≤ most_entries
    → ArePlanned actors number (planned_from actors mode limit all number (map (λ a. a.parent) plans) (map (λ a. a.strategy) plans))
planned-all actors mode limit all number [] none lt le few bound = tt
planned-all actors mode limit all number (a ∷ plans) none lt le few bound =
    let both = no-reason (nat_lt a.parent.0 number) _ (bad_parents (number + 1) plans) none in
    let parent : a.parent.0 < number = below a.parent.0 number both.0 in (
      record {
        this = refl;
        actors_are = refl;
        guardian_is = not-zero number lt;
        parent = omega (arith, parent, le);
        prepared = children-there actors 1 number all few;
        within_limit = bound;
      },
      planned-all actors mode limit all (number + 1) plans both.1 (omega arith) (omega (arith, le)) few bound,
    )

-- the guardian and the actors of a plan
pub all-planned : (mode : JournalMode) (limit : ℕ) (plans : List ActorPlan) → bad_parents 1 plans ≡ [] → limit ≤ most_entries → ArePlanned (length plans + 1) 0
    (identities (length plans + 1) mode limit (map (λ a. a.parent) plans) (map (λ a. a.strategy) plans))
all-planned mode limit plans none bound =
    let many = length-map plans (λ (a : ActorPlan). a.parent) in
    let few : 1 + length (map (λ (a : ActorPlan). a.parent) plans) ≤ length plans + 1 = omega (arith, many) in (
      record {
        this = refl;
        actors_are = refl;
        guardian_is = refl;
        parent = tt;
        prepared = children-there (length plans + 1) 1 0 (map (λ a. a.parent) plans) few;
        within_limit = bound;
      },
      planned-all (length plans + 1) mode limit (map (λ a. a.parent) plans) 1 plans none (omega arith) (omega arith) few bound,
    )
