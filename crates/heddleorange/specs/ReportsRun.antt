-- What the report of a whole run tells its reader (this project's own profile: Akka tells nothing of a run as a whole).
use Rattle.std.specs.Prelude.{◌≡◌, ◌+◌, ℤ, List, length}
use Rattle.mb_actor.specs.Behaviour.{Moment, Reply}
use Rattle.mb_actor.specs.declared.message.Message.{Message}
use Rattle.mb_msg.specs.declared.order.Order.{Order}
use Rattle.mb_msg.specs.declared.plan.Plan.{Plan}
use Rattle.mb_report.specs.declared.report.Report.{Report}
use Rattle.heddleorange.specs.Kept.{KeepsAsPlanned}
use Rattle.heddleorange.specs.Ledger.{AddsUp, AddsUpByCounts}
use Rattle.heddleorange.specs.NoReport.{IsRight}
use Rattle.heddleorange.specs.RunHeadline.{RunHeadline}
use Rattle.heddleorange.specs.States.{ShowsStates}
use Rattle.heddleorange.specs.WholeRun.{IsReportOfRun, after_at, gives_at}

-- The report of a whole run of this plan and of these very actors, whose senders outside carried out these orders, a list for each sender.
pub record ReportsRun {A : Type 0} (after : A → List Message → ℤ) (gives : A → Moment → Reply → Type 0) (plan : Plan) (actors : List A)
    (orders : List (List Order)) (report : Report) : Type 0 where
  -- The plan and the orders were right.
  pub right : IsRight plan (length actors) orders
  -- The whole story of the run.
  pub story : IsReportOfRun (after_at actors after) (gives_at actors gives) plan orders report
  -- The state of each actor is the actor's own `after` of what came to it.
  pub states : ShowsStates after actors plan report
  -- There is a line for the guardian, and one for each actor.
  pub lines : length report.actors.items ≡ length actors + 1
  -- The headline.
  pub headline : RunHeadline plan orders report
  -- Whatever each envelope weighs, all that was sent weighs as much as what became of it.
  pub ledger : AddsUp plan orders report
  -- The numbers of the report add up.
  pub counts : AddsUpByCounts report
  -- As much is kept as the plan says.
  pub kept : KeepsAsPlanned plan report
