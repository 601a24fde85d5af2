-- Why a whole run gave no report.
use Rattle.std.specs.Prelude.{◌≡◌, ◌≢◌, ◌⊎◌, ℕ, ◌<◌, Bool, true, false, List, [], ◌∷◌, Option, length}
use Rattle.std.specs.List.{list_any}
use Rattle.mb_actor.specs.Behaviour.{Moment, Reply}
use Rattle.mb_build.specs.Reasons.{reasons}
use Rattle.mb_build.specs.declared.check.PlanError.{PlanError}
use Rattle.mb_msg.specs.declared.plan.Plan.{Plan}
use Rattle.mb_shutdown.specs.Mismatched.{of_whom}
use Rattle.mb_build.specs.Planned.{actors_in}
use Rattle.mb_msg.specs.declared.order.Order.{Order}
pub use Rattle.mb_source.specs.Receivers.{has_nobody, is_for_nobody}
use Rattle.mb_shutdown.specs.NotFinished.{DoesNotAgree}
use Rattle.mb_shutdown.specs.declared.unfinished.UnfinishedActor.{UnfinishedActor}
use Rattle.heddleorange.specs.Remains.{AreRemains, IsFirstFull, IsLackOf}
use Rattle.heddleorange.specs.declared.error.Error.{Error}
use Rattle.heddleorange.specs.declared.error.Error.TheVariants.{BadPlan, OrderLists, NoSuchSender, NoSuchActor, NoMemory, NoMemoryInRun, JournalFull, Mismatch, NameTaken}
use Rattle.heddleorange.specs.declared.failed_run.FailedRun.{FailedRun}

-- One of these orders is so.
abbrev pub has_one_for_nobody : ℕ → List (List Order) → Bool
has_one_for_nobody actors orders = list_any (list_any (has_nobody actors)) orders

-- With so many actors the plan is not refused, there is one list of orders for each of its senders, and each order that is to be carried out can go
-- to an actor.
abbrev pub IsRight : Plan → ℕ → List (List Order) → Type 0
IsRight plan actors orders = (reasons plan actors ≡ []) × (length orders ≡ plan.senders) × (has_one_for_nobody actors orders ≡ false)

-- Nothing is done: the plan is refused, for the first of all reasons; or it is not refused, and there are not as many lists of orders as senders; or
-- there are, and one of the orders can go to no actor.
abbrev pub IsUnfit : Plan → ℕ → List (List Order) → Error → Type 0
IsUnfit plan actors orders (BadPlan reason) = (rest : List PlanError) × (reasons plan actors ≡ reason ∷ rest)
IsUnfit plan actors orders (OrderLists lists senders) =
    (reasons plan actors ≡ []) × (length orders ≢ plan.senders) × (lists ≡ length orders) × (senders ≡ plan.senders)
IsUnfit plan actors orders (NoSuchSender place sender) = (reasons plan actors ≡ []) × (length orders ≢ plan.senders)
IsUnfit plan actors orders (NoSuchActor sender place to) =
    (reasons plan actors ≡ []) × (length orders ≡ plan.senders) × (has_one_for_nobody actors orders ≡ true)
IsUnfit plan actors orders NoMemoryInRun = ⊥
IsUnfit plan actors orders (JournalFull id) = ⊥
IsUnfit plan actors orders NoMemory = ⊥
IsUnfit plan actors orders (Mismatch what) = ⊥
IsUnfit plan actors orders (NameTaken id) = ⊥

-- Why the run gave no report, and what is left of its actors. Nothing is done, as above, and nothing is left. Or the plan and the orders are right, and
-- one of these holds: memory was refused; the first journal of those left that is at its limit is that of this actor; this very mismatch was found, and
-- nothing is left; or nothing came back of this actor.
abbrev pub HasFailedFor : (ℕ → Moment → Reply → Type 0) → Plan → ℕ → List (List Order) → List (Option UnfinishedActor) → Error → Type 0
HasFailedFor gives plan actors orders shown (BadPlan reason) = ((rest : List PlanError) × (reasons plan actors ≡ reason ∷ rest)) × (shown ≡ [])
HasFailedFor gives plan actors orders shown (OrderLists lists senders) =
    (reasons plan actors ≡ []) × (length orders ≢ plan.senders) × (lists ≡ length orders) × (senders ≡ plan.senders) × (shown ≡ [])
HasFailedFor gives plan actors orders shown (NoSuchSender place sender) = (reasons plan actors ≡ []) × (length orders ≢ plan.senders) × (shown ≡ [])
HasFailedFor gives plan actors orders shown (NoSuchActor sender place to) =
    (reasons plan actors ≡ []) × (length orders ≡ plan.senders) × (has_one_for_nobody actors orders ≡ true) × (shown ≡ [])
HasFailedFor gives plan actors orders shown NoMemoryInRun = IsRight plan actors orders × AreRemains gives plan shown
HasFailedFor gives plan actors orders shown (JournalFull id) =
    IsRight plan actors orders × AreRemains gives plan shown × IsFirstFull plan.journal_limit shown id
HasFailedFor gives plan actors orders shown NoMemory = IsRight plan actors orders × ((shown ≡ []) ⊎ AreRemains gives plan shown)
HasFailedFor gives plan actors orders shown (Mismatch what) = IsRight plan actors orders × (of_whom what < length (actors_in plan))
    × ((DoesNotAgree gives plan what × (shown ≡ [])) ⊎ (AreRemains gives plan shown × IsLackOf shown what))
HasFailedFor gives plan actors orders shown (NameTaken id) = ⊥

-- The failure of a whole run.
abbrev pub IsErrorOfRun : {A : Type 0} → (ℕ → Moment → Reply → Type 0) → Plan → ℕ → List (List Order) → FailedRun A → Type 0
IsErrorOfRun gives plan actors orders failed = HasFailedFor gives plan actors orders failed.actors.items failed.error
