-- What the report of a run tells its reader, from its story.
use Rattle.std.proofs.Common.{ℤ, List, length}
use Rattle.std.specs.Prelude.{Err, IfOk, Ok, OnOk, Result}
use Rattle.mb_actor.specs.Behaviour.{Moment, Reply}
use Rattle.mb_actor.specs.declared.message.Message.{Message}
use Rattle.mb_msg.specs.declared.order.Order.{Order}
use Rattle.mb_msg.specs.declared.plan.Plan.{Plan}
use Rattle.mb_report.specs.declared.report.Report.{Report}
use Rattle.heddleorange.specs.NoReport.{IsRight}
use Rattle.heddleorange.specs.ReportsRun.{ReportsRun}
use Rattle.heddleorange.specs.WholeRun.{IsReportOfRun, after_at, gives_at}
use Rattle.heddleorange.specs.declared.in_order.QuietRun.{QuietRun}
use Rattle.heddleorange.proofs.ByCounts.{adds-up-by-counts}
use Rattle.heddleorange.proofs.FromStory.{lines, states}
use Rattle.heddleorange.proofs.Kept.{keeps}
use Rattle.heddleorange.proofs.Ledger.{adds-up}
use Rattle.heddleorange.proofs.RunHeadline.{run-headline}

module _ {A : Type 0} (after : A → List Message → ℤ) (gives : A → Moment → Reply → Type 0) (plan : Plan) (actors : List A) (orders : List (List Order)) where
  abbrev IsStory : Report → Type 0
  IsStory = IsReportOfRun (after_at actors after) (gives_at actors gives) plan orders

  told : (report : Report) → IsRight plan (length actors) orders → IsStory report → ReportsRun after gives plan actors orders report
  told report right story = record {
    right = right;
    story = story;
    states = states actors after (gives_at actors gives) plan orders report right story;
    lines = lines actors after (gives_at actors gives) plan orders report right story;
    headline = run-headline (after_at actors after) (gives_at actors gives) plan (length actors) orders report right story;
    ledger = adds-up (after_at actors after) (gives_at actors gives) plan (length actors) orders report right story;
    counts = adds-up-by-counts (after_at actors after) (gives_at actors gives) plan (length actors) orders report right story;
    kept = keeps (after_at actors after) (gives_at actors gives) plan orders report story;
  }

  module _ {E : Type 0} where
    -- of a call that gives the report
    pub reports : (result : Result Report E) → IfOk result IsStory → OnOk result (IsRight plan (length actors) orders)
        → IfOk result (ReportsRun after gives plan actors orders)
    reports (Ok report) story right = told report right story
    reports (Err error) story right = story

    -- of one that gives its turns too
    pub reports-quiet : (result : Result QuietRun E) → IfOk result (λ run. IsStory run.report) → OnOk result (IsRight plan (length actors) orders)
        → IfOk result (λ run. ReportsRun after gives plan actors orders run.report)
    reports-quiet (Ok run) story right = told run.report right story
    reports-quiet (Err error) story right = story
