-- How a run of a plan ends whose senders have sent and whose handles have run: as its end tells, or broken off.
use Rattle.std.proofs.Common.{◌≡◌, ℕ, ℤ, List, [], length, refl, subst}
use Rattle.std.specs.Prelude.{◌≢◌, Err, IfErr, IfOk, Ok, Result}
use Rattle.mb_actor.specs.Behaviour.{Moment, Reply}
use Rattle.mb_actor.specs.declared.message.Message.{Message}
use Rattle.mb_dispatch.specs.Sources.{others_of}
use Rattle.mb_gate.specs.Accessors.{actors_of}
use Rattle.mb_gate.specs.Untouched.{origin_of}
use Rattle.mb_msg.specs.declared.order.Order.{Order}
use Rattle.mb_msg.specs.declared.plan.Plan.{Plan}
use Rattle.mb_report.specs.declared.report.Report.{Report}
use Rattle.mb_shutdown.specs.Refused.{IsComplete}
use Rattle.mb_source.specs.RecordedSource.{RecordedSource}
use Rattle.mb_startup.proofs.There.{some-handle}
use Rattle.mb_startup.specs.Begun.{IsBegun}
use Rattle.mb_system.specs.declared.built.Built.{Built}
use Rattle.mb_system.specs.declared.failure.RunError.{RunError}
use Rattle.mb_system.specs.declared.failure.RunError.TheVariants as Fault
use Rattle.heddleorange.specs.FromSources.{orders_given}
use Rattle.heddleorange.specs.GivesBack.{GivesNothingBack}
use Rattle.heddleorange.specs.GivesNoReport.{GivesNoReport}
use Rattle.heddleorange.specs.HasRun.{HasRun, HasRunWithin}
use Rattle.heddleorange.specs.NoReport.{IsErrorOfRun, IsRight}
use Rattle.heddleorange.specs.Remains.{HasOwnHandles, IsBrokenOff, SawFull}
use Rattle.heddleorange.specs.SentAndRun.{HasSentAndRun, IsSameSystem}
use Rattle.heddleorange.specs.WholeRun.{IsReportOfRun}
use Rattle.heddleorange.specs.declared.failed_run.FailedRun.{FailedRun}
use Rattle.heddleorange.proofs.AnyBreak.{BreaksOff}
use Rattle.heddleorange.proofs.Breaking.{full-seen, may-break, own-handles, somebody}
use Rattle.heddleorange.proofs.GivesNoReport.{begun-failure}
use Rattle.heddleorange.proofs.LastRun.{AllToLast, have-run-by}
use Rattle.heddleorange.proofs.HasRunLemmas.{complete, has-run, storied}

module _ {A K : Type 0} (gives : ℕ → Moment → Reply → Type 0) (plan : Plan) (actors : List A) (orders : List (List Order)) (first now : Built A K)
    (begun : IsBegun gives plan first) (right : IsRight plan (length actors) orders) (same : IsSameSystem first now) where
  -- all its handles are its own
  pub still-its-own : HasOwnHandles now
  still-its-own = own-handles first now same.system (some-handle gives plan first begun) same.handles same.same_gates

  module _ (ran : HasSentAndRun gives orders first now) where
    -- it has sent and run, and nothing is missing of it
    pub this-run : HasRun gives plan orders now
    this-run = has-run gives plan orders first now begun same.system same.handles ran.sent ran.log_kept ran.runs

    pub all-there : IsComplete now
    all-there = complete gives plan orders first now begun same.system same.handles ran.sent ran.log_kept right.1

    pub within-limit : HasRunWithin gives plan.journal_limit now
    within-limit =
        record { plan = plan; actors = length actors; orders = orders; right = right; limit_is = refl; ran = this-run }

    -- its end tells its story
    pub ended-story : {E : Type 0} (after : ℕ → List Message → ℤ) (result : Result Report E)
        → IfOk result (λ report. (p : Plan) (os : List (List Order)) → length os ≡ p.senders → HasRun gives p os now → IsReportOfRun after gives p os report)
        → IfOk result (IsReportOfRun after gives plan orders)
    ended-story after result all = storied after gives plan orders now this-run result right.1 all

    -- or why it has none
    pub ended-failure : (result : Result Report (FailedRun A))
        → IfErr result (λ failed. (p : Plan) (n : ℕ) (os : List (List Order)) → IsRight p n os → p.journal_limit ≡ plan.journal_limit → HasRun gives p os now
        → IsErrorOfRun gives p n os failed)
        → IfErr result GivesNothingBack → IfErr result (GivesNoReport gives plan actors [] orders)
    ended-failure (Ok report) all none = tt
    ended-failure (Err failed) all none =
        begun-failure gives plan actors orders failed (all plan (length actors) orders right refl this-run) none

  module _ (error : RunError) (broken : BreaksOff gives first.system now.handles.items orders error) where
    -- it is broken off, but not for an order that is to nobody
    pub not-for-nobody : error ≢ Fault.NoSuchActor
    not-for-nobody = somebody gives plan first now begun same.system (length actors) orders right error broken

    -- one of its handles saw the journal that is full
    pub journal-seen : error ≡ Fault.JournalFull → SawFull (actors_of now.system.gates) plan.journal_limit now.handles.items
    journal-seen = full-seen gives plan first now begun same.system (length actors) orders right error broken

    pub broken-failure : AllToLast gives (origin_of first.system.gates) first.system.throughput first.handles.items now.handles.items
        → (failed : FailedRun A) → IsBrokenOff gives now error plan.journal_limit failed → GivesNothingBack failed
        → GivesNoReport gives plan actors [] orders failed
    broken-failure runs failed left none =
        begun-failure gives plan actors orders failed
        (may-break gives plan first now begun same.system (length actors) orders right
        (have-run-by gives plan first now begun same.system runs) error failed broken left) none

-- what sources gave, of which so many actors get what can go to one of them, is what was sent of it
module _ {A K S : Type 0} (gives : ℕ → Moment → Reply → Type 0) (first now : Built A K) (actors : ℕ) (was is : List (RecordedSource S)) where
  pub ran-as-given : others_of first.system.gates ≡ actors → HasSentAndRun gives (orders_given (others_of first.system.gates) was is) first now
      → HasSentAndRun gives (orders_given actors was is) first now
  ran-as-given others ran = subst (λ n. HasSentAndRun gives (orders_given n was is) first now) others ran

  pub broke-as-given : (error : RunError) → others_of first.system.gates ≡ actors
      → BreaksOff gives first.system now.handles.items (orders_given (others_of first.system.gates) was is) error
      → BreaksOff gives first.system now.handles.items (orders_given actors was is) error
  broke-as-given error others broken =
      subst (λ n. BreaksOff gives first.system now.handles.items (orders_given n was is) error) others broken
