-- A plan that was not refused.
use Rattle.std.proofs.Common.{◌≡◌, ◌≤◌, ◌<◌, ◌==◌, ◌&&◌, ℕ, Bool, true, false, List, [], ◌∷◌, ◌++◌, length, refl, arith}
use Rattle.std.specs.Prelude.{nat_le, nat_lt}
use Rattle.std.proofs.lemmas.Bool.Decides.{nat_tests}
use Rattle.mb_msg.specs.Limits.{most_entries}
use Rattle.mb_msg.specs.declared.plan.Plan.{Plan}
use Rattle.mb_build.specs.Reasons.{bad_bounds, bad_numbers, bad_parents, reasons, unless}
use Rattle.mb_build.specs.declared.check.PlanError.{PlanError}
use Rattle.mb_build.specs.declared.check.PlanError.TheVariants.{Actors, Boxes, Senders, Workers, JournalLimit}

-- two lists that are nothing together are nothing
none-of-both : (xs ys : List PlanError) → xs ++ ys ≡ [] → (xs ≡ []) × (ys ≡ [])
none-of-both [] ys none = (refl, none)
none-of-both (x ∷ xs) ys none = absurd (cc)

-- what is no reason holds
holds : (test : Bool) (reason : PlanError) → unless test reason ≡ [] → test ≡ true
holds true reason none = refl
holds false reason none = absurd (cc)

both-hold : (a b : Bool) → (a && b) ≡ true → (a ≡ true) × (b ≡ true)
both-hold true b is = (refl, is)
both-hold false b is = absurd (cc)

below : (a b : ℕ) → nat_lt a b ≡ true → a < b
below a b is = grind (arith, nat_tests)

within : (a b : ℕ) → nat_le a b ≡ true → a ≤ b
within a b is = grind (arith, nat_tests)

same : (a b : ℕ) → (a == b) ≡ true → a ≡ b
same a b is = grind (arith, nat_tests)

-- a system of the plan can be built with so many actors
pub record IsRight (plan : Plan) (actors : ℕ) : Type 0 where
  pub within_limit : length plan.actors.items < 64
  pub as_many : length plan.actors.items ≡ actors
  pub parents : bad_parents 1 plan.actors.items ≡ []
  pub bounds : bad_bounds 1 plan.actors.items ≡ []
  pub senders : plan.senders ≤ 16
  pub workers : (1 ≤ plan.workers) × (plan.workers ≤ 16)
  pub limit : (1 ≤ plan.journal_limit) × (plan.journal_limit ≤ most_entries)

pub right-plan : (plan : Plan) (actors : ℕ) → reasons plan actors ≡ [] → IsRight plan actors
right-plan plan actors none =
    let all = plan.actors.items in
    let count = none-of-both (unless (nat_lt (length all) 64) Actors)
    (unless (length all == actors) Boxes ++ (bad_parents 1 all ++ (bad_bounds 1 all ++ bad_numbers plan))) none in
    let boxes = none-of-both (unless (length all == actors) Boxes) (bad_parents 1 all ++ (bad_bounds 1 all ++ bad_numbers plan)) count.1 in
    let parents = none-of-both (bad_parents 1 all) (bad_bounds 1 all ++ bad_numbers plan) boxes.1 in
    let bounds = none-of-both (bad_bounds 1 all) (bad_numbers plan) parents.1 in
    let senders = none-of-both (unless (nat_le plan.senders 16) Senders)
    (unless (nat_le 1 plan.workers && nat_le plan.workers 16) Workers ++ unless (nat_le 1 plan.journal_limit && nat_le plan.journal_limit most_entries) JournalLimit) bounds.1 in
    let others = none-of-both (unless (nat_le 1 plan.workers && nat_le plan.workers 16) Workers)
    (unless (nat_le 1 plan.journal_limit && nat_le plan.journal_limit most_entries) JournalLimit) senders.1 in
    let workers = both-hold (nat_le 1 plan.workers) (nat_le plan.workers 16)
    (holds (nat_le 1 plan.workers && nat_le plan.workers 16) Workers others.0) in
    let limits = both-hold (nat_le 1 plan.journal_limit) (nat_le plan.journal_limit most_entries)
    (holds (nat_le 1 plan.journal_limit && nat_le plan.journal_limit most_entries) JournalLimit others.1) in
    record {
      within_limit = below (length all) 64 (holds (nat_lt (length all) 64) Actors count.0);
      as_many = same (length all) actors (holds (length all == actors) Boxes boxes.0);
      parents = parents.0;
      bounds = bounds.0;
      senders = within plan.senders 16 (holds (nat_le plan.senders 16) Senders senders.0);
      workers = (within 1 plan.workers workers.0, within plan.workers 16 workers.1);
      limit = (within 1 plan.journal_limit limits.0, within plan.journal_limit most_entries limits.1);
    }
