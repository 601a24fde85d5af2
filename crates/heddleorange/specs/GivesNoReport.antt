-- What a whole run tells where it gives no report (this project's own profile: Akka tells nothing of a run as a whole).
use Rattle.std.specs.Prelude.{ℕ, List, String, length}
use Rattle.std.specs.Global.{Global}
use Rattle.mb_actor.specs.Behaviour.{Moment, Reply}
use Rattle.mb_msg.specs.declared.order.Order.{Order}
use Rattle.mb_msg.specs.declared.plan.Plan.{Plan}
use Rattle.heddleorange.specs.GivesBack.{GivesBack}
use Rattle.heddleorange.specs.NamedOrder.{NamesInLists}
use Rattle.heddleorange.specs.NoReport.{IsErrorOfRun}
use Rattle.heddleorange.specs.declared.failed_run.FailedRun.{FailedRun}

-- The failure of a whole run of this plan and these actors, which have these names. Each sender outside was to carry out its list of these orders.
pub record GivesNoReport {A : Type 0} (gives : ℕ → Moment → Reply → Type 0) (plan : Plan) (actors : List A) (names : List (String Global))
    (orders : List (List Order)) (failed : FailedRun A) : Type 0 where
  -- Why there is no report, and what is left of the actors.
  pub refused : IsErrorOfRun gives plan (length actors) orders failed
  -- Which order is refused, where one is.
  pub which : NamesInLists (length actors) orders failed.error
  -- What comes back of what was handed in.
  pub back : GivesBack plan actors names failed
