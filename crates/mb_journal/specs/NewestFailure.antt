-- By whom an actor is failed, by the newest entry that decides it.
-- In each definition `before` is what came before the entry `e`.
use Rattle.std.specs.Prelude.{Bool, not, ◌&&◌, ◌||◌, if◌then◌else◌, List, [], ◌∷◌, Option, Some, None}
use Rattle.mb_actor.specs.declared.phase.Phase.TheVariants.{Live}
use Rattle.mb_journal.specs.Effects.{applies}
use Rattle.mb_journal.specs.Entry.{Entry}
use Rattle.mb_journal.specs.Failure.{is_failure, is_escalation, failure_source, is_resume_of_failure}
use Rattle.mb_journal.specs.declared.failed_by.FailedBy.{FailedBy}
use Rattle.mb_journal.specs.declared.failed_by.FailedBy.TheVariants.{Nobody, Itself}
use Rattle.mb_journal.specs.Identity.{Identity}
use Rattle.mb_journal.specs.Life.{phase, is_restart, is_ending, is_last}
use Rattle.mb_journal.specs.Phase.{phase_is}

-- the newest entry that passes the test, and what came before it
abbrev pub newest_where : (Entry → List Entry → Bool) → List Entry → Option (Entry × List Entry)
newest_where test [] = None
newest_where test (e ∷ before) = if test e before then Some (e, before) else newest_where test before

-- a Resume for its failure is applied to the Live actor
abbrev pub resumes_for_failure : Identity → Entry → List Entry → Bool
resumes_for_failure who e before = applies is_resume_of_failure e && phase_is (phase who before) Live

-- the actor begins to end, and has to wait for children
abbrev pub waits_for_children : Identity → Entry → List Entry → Bool
waits_for_children who e before = is_ending e before && not (is_last who e before)

-- these entries decide by whom the actor is failed
abbrev pub decides_failure : Identity → Entry → List Entry → Bool
decides_failure who e before =
    is_failure who e before || is_restart who e before || resumes_for_failure who e before || waits_for_children who e before

-- nobody, if it is a restart without failure or a Resume; else the child whose failure it escalates, or the actor itself
abbrev pub decided_failure : Identity → Option (Entry × List Entry) → FailedBy
decided_failure who None = Nobody
decided_failure who (Some (e, before)) =
    if not (is_failure who e before) && (is_restart who e before || resumes_for_failure who e before) then Nobody
    else (if is_escalation who e before then failure_source e else Itself)
