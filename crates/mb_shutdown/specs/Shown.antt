-- What a report shows of the parts of the homes.
use Rattle.std.specs.Prelude.{◌≡◌, ◌≢◌, ◌⊎◌, ℕ, ◌<◌, ℤ, if◌then◌else◌, List, [], length, Some, None, slice_get}
use Rattle.mb_msg.specs.JournalMode.{Retention}
use Rattle.mb_msg.specs.declared.envelope.Envelope.{Envelope}
use Rattle.mb_actor.specs.declared.message.Message.{Message}
use Rattle.mb_actor.specs.declared.phase.Phase.TheVariants.{Ended as EndedPhase}
use Rattle.mb_journal.specs.Aside.{aside}
use Rattle.mb_journal.specs.Identity.{is_guardian}
use Rattle.mb_journal.specs.Incarnation.{messages}
use Rattle.mb_journal.specs.Life.{phase}
use Rattle.mb_journal.specs.Suspension.{count}
use Rattle.mb_cell.specs.CellView.{CellView}
use Rattle.mb_report.specs.declared.report.ActorReport.{ActorReport}
use Rattle.mb_shutdown.specs.HomeParts.{ended_of}
use Rattle.mb_shutdown.specs.declared.room.Ended.{Ended}

-- The report shows this cell, and what was cleaned up, left and dead. It keeps of the journal and of what was cleaned up what these kept.
pub record ShowsCell (after : ℕ → List Message → ℤ) (end : CellView × List Envelope × ℕ × Retention) (left : List Envelope) (a : ActorReport) : Type 0 where
  pub phase_is : a.phase ≡ phase end.0.who end.0.journal
  pub count_is : a.count ≡ count end.0.who end.0.journal
  pub state_is : a.state ≡ (if is_guardian end.0.who then None else Some (after end.0.who.this.0 (messages end.0.who end.0.journal)))
  pub journal_is : a.journal.entries ≡ end.0.journal
  pub kept_is : a.journal.retention ≡ end.0.who.retention
  pub aside_is : a.aside.items ≡ aside end.0.who end.0.journal
  pub cleaned_is : a.cleaned.items ≡ end.1
  pub cleaned_kept : a.cleaned.retention ≡ end.3
  pub left_is : a.left.items ≡ left
  pub dead_is : a.dead_system ≡ end.2

-- The report shows this cell; as many envelopes are left as were counted; and if any is left, the actor ended or is suspended.
pub record ShowsOne {A K : Type 0} (after : ℕ → List Message → ℤ) (e : Ended A K) (left : List Envelope) (waiting : ℕ) (a : ActorReport) : Type 0 where
  pub shows : ShowsCell after (ended_of e) left a
  pub counted : length left ≡ waiting
  pub kept : left ≢ [] → (a.phase ≡ EndedPhase) ⊎ (0 < a.count)

-- The report does so for each actor, for which this is left and so many envelopes were counted.
pub record ShowsAll {A K : Type 0} (after : ℕ → List Message → ℤ) (ended : List (Ended A K)) (lefts : List (List Envelope)) (waiting : List ℕ) (actors : List
    ActorReport) : Type 0 where
  pub same_count : length actors ≡ length ended
  pub each : (place : ℕ) (e : Ended A K) (left : List Envelope) (n : ℕ) (a : ActorReport) → slice_get ended place ≡ Some e
      → slice_get lefts place ≡ Some left → slice_get waiting place ≡ Some n → slice_get actors place ≡ Some a → ShowsOne after e left n a
