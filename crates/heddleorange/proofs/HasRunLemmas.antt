-- A system of a plan that has run is all there, and its report has its story.
use Rattle.std.proofs.Common.{◌≡◌, ℕ, ℤ, List, length, subst}
use Rattle.std.specs.Prelude.{Err, IfOk, Ok, Result}
use Rattle.mb_actor.specs.Behaviour.{Moment, Reply}
use Rattle.mb_actor.specs.declared.message.Message.{Message}
use Rattle.mb_gate.specs.Untouched.{origin_of}
use Rattle.mb_msg.specs.declared.order.Order.{Order}
use Rattle.mb_msg.specs.declared.plan.Plan.{Plan}
use Rattle.mb_report.specs.declared.report.Report.{Report}
use Rattle.mb_shutdown.specs.Refused.{IsComplete}
use Rattle.mb_startup.specs.Begun.{IsBegun}
use Rattle.mb_system.specs.Members.{StillSee, handle_numbers}
use Rattle.mb_system.specs.declared.built.Built.{Built}
use Rattle.heddleorange.specs.HasRun.{HasRun}
use Rattle.heddleorange.specs.Sent.{HaveSent}
use Rattle.heddleorange.specs.WholeRun.{IsReportOfRun}
use Rattle.heddleorange.specs.Workers.{AllOnlyRuns}
use Rattle.heddleorange.proofs.WholeRun.{no-handle-missing, no-sender-missing}

module _ {A K : Type 0} (gives : ℕ → Moment → Reply → Type 0) (plan : Plan) (orders : List (List Order)) (first now : Built A K)
    (begun : IsBegun gives plan first) (system : now.system ≡ first.system) (handles : handle_numbers now.handles.items ≡ handle_numbers first.handles.items)
    (sent : HaveSent first.system.gates orders first.senders.items now.senders.items) (saw : StillSee first.handles.items now.handles.items) where
  pub has-run : AllOnlyRuns gives (origin_of first.system.gates) first.system.throughput first.handles.items now.handles.items → HasRun gives plan orders now
  has-run runs = record {
    first = first;
    begun = begun;
    system = system;
    handles = handles;
    sent = sent;
    log_kept = saw;
    runs = subst (λ n. AllOnlyRuns gives (origin_of first.system.gates) n first.handles.items now.handles.items) begun.numbers.2 runs;
  }

  pub complete : length orders ≡ plan.senders → IsComplete now
  complete right = (
    λ n within. no-handle-missing gives plan first begun orders now right system handles sent n within,
    λ n within. no-sender-missing gives plan first begun orders now right system handles sent n within,
  )

module _ {A K : Type 0} (after : ℕ → List Message → ℤ) (gives : ℕ → Moment → Reply → Type 0) (plan : Plan) (orders : List (List Order))
    (now : Built A K) (ran : HasRun gives plan orders now) where
  pub storied : {E : Type 0} (result : Result Report E) → length orders ≡ plan.senders
      → IfOk result (λ report. (p : Plan) (os : List (List Order)) → length os ≡ p.senders → HasRun gives p os now → IsReportOfRun after gives p os report)
      → IfOk result (IsReportOfRun after gives plan orders)
  storied (Ok report) right all = all plan orders right ran
  storied (Err error) right all = all
