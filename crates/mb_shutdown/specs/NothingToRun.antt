-- That nothing is left which an actor could do, in the words of a report (`akka.dispatch.Mailbox.canBeScheduledForExecution`: a mailbox that is neither
-- closed nor suspended is scheduled while it has messages; that a report says so is this project's own profile).
use Rattle.std.specs.Prelude.{◌≡◌, ◌≢◌, ◌⊎◌, ℕ, ◌<◌, [], Some, slice_get}
use Rattle.mb_actor.specs.declared.phase.Phase.TheVariants.{Ending, Ended}
use Rattle.mb_report.specs.declared.report.ActorReport.{ActorReport}
use Rattle.mb_report.specs.declared.report.Report.{Report}

-- The actor has nothing to run: envelopes are left in its mailbox only if it has ended or is suspended; system messages are set aside only while it is
-- suspended or ends; and none of them is dead unless it has ended. Of one that is neither suspended, ending nor ended, nothing is left.
pub record HasNothingToRun (a : ActorReport) : Type 0 where
  pub none_left : a.left.items ≢ [] → (a.phase ≡ Ended) ⊎ (0 < a.count)
  pub none_aside : a.aside.items ≢ [] → (a.phase ≡ Ending) ⊎ (0 < a.count)
  pub none_dead : a.phase ≢ Ended → a.dead_system ≡ 0

-- So it is with each actor of the report.
abbrev pub NobodyHasToRun : Report → Type 0
NobodyHasToRun report = (id : ℕ) (a : ActorReport) → slice_get report.actors.items id ≡ Some a → HasNothingToRun a
