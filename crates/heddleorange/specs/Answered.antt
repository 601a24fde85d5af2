-- A Watch of an actor that has ended is answered (`akka.actor.EmptyLocalActorRef.sendSystemMessage`).
use Rattle.std.specs.Prelude.{◌≡◌, ◌≢◌, ◌+◌, ◌≤◌, ◌==◌, if◌then◌else◌, ℕ, List, Some, slice_get}
use Rattle.mb_actor.specs.declared.phase.Phase.TheVariants.{Ended}
use Rattle.mb_build.specs.Planned.{actors_in}
use Rattle.mb_gate.specs.PutIn.{put_by}
use Rattle.mb_gate.specs.View.{View}
use Rattle.mb_ghost.specs.Summed.{total}
use Rattle.mb_msg.specs.declared.plan.Plan.{Plan}
use Rattle.mb_msg.specs.declared.system.SysMsg.{SysMsg}
use Rattle.mb_msg.specs.declared.system.SysMsg.TheVariants.{Died, Watch}
use Rattle.mb_report.specs.declared.report.ActorReport.{ActorReport}
use Rattle.mb_report.specs.declared.report.Report.{Report}
use Rattle.heddleorange.specs.Asked.{due_by, measure_to}

-- 1 for a Watch of this watcher, 0 for any other message.
abbrev pub watch_by : ℕ → SysMsg → ℕ
watch_by watcher (Watch w) = if w.0 == watcher then 1 else 0
watch_by watcher _ = 0

-- 1 for the notice that this actor has ended, 0 for any other message.
abbrev pub end_of : ℕ → SysMsg → ℕ
end_of x (Died ended) = if ended.0 == x then 1 else 0
end_of x _ = 0

-- These seats put each Watch that an actor of the report has to send into the list of the actor that it is for, or answered it: they put a notice of that
-- actor's end into the watcher's list, beside those that journals have to send there. That is so unless the watcher has ended.
abbrev pub AnswersWatches : Plan → Report → List View → Type 0
AnswersWatches plan report vs = (watcher x : ℕ) (b : ActorReport) → slice_get report.actors.items watcher ≡ Some b → b.phase ≢ Ended
    → total (measure_to x (watch_by watcher)) (due_by (actors_in plan) report.actors.items)
    + total (measure_to watcher (end_of x)) (due_by (actors_in plan) report.actors.items)
    ≤ total (put_by x (λ m. watch_by watcher m.1)) vs + total (put_by watcher (λ m. end_of x m.1)) vs
