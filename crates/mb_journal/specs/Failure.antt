-- Which entries are failures, and by whom the actor is failed (`akka.actor.dungeon.FaultHandling`).
-- In each definition `before` is what came before the entry `e`.
use Rattle.std.specs.Prelude.{Bool, true, false, not, ◌&&◌, ◌||◌, if◌then◌else◌, is_some, List, [], ◌∷◌, Option, Some, None}
use Rattle.mb_msg.specs.declared.envelope.Body.{Body}
use Rattle.mb_msg.specs.declared.envelope.Body.TheVariants as body
use Rattle.mb_msg.specs.declared.id.ActorId.{ActorId}
use Rattle.mb_msg.specs.declared.supervision.Cause.{Cause}
use Rattle.mb_msg.specs.declared.supervision.Cause.TheVariants as cause
use Rattle.mb_msg.specs.declared.supervision.Directive.{Directive}
use Rattle.mb_msg.specs.declared.supervision.Directive.TheVariants as directive
use Rattle.mb_msg.specs.declared.system.SysMsg.{SysMsg}
use Rattle.mb_msg.specs.declared.system.SysMsg.TheVariants as system
use Rattle.mb_actor.specs.declared.answer.Answer.{Answer}
use Rattle.mb_actor.specs.declared.answer.Answer.TheVariants as answer
use Rattle.mb_actor.specs.ActorList.{is_same, has}
use Rattle.mb_journal.specs.Effects.{applies}
use Rattle.mb_journal.specs.Entry.{Entry, outcome_answer, answered_failed}
use Rattle.mb_journal.specs.Entry.Entry.{Handled, System}
use Rattle.mb_journal.specs.Entry.Outcome.{Applied}
use Rattle.mb_journal.specs.declared.failed_by.FailedBy.{FailedBy}
use Rattle.mb_journal.specs.declared.failed_by.FailedBy.TheVariants.{Nobody, Itself, Child}
use Rattle.mb_journal.specs.Identity.{Identity}
use Rattle.mb_journal.specs.Life.{children, phase, is_beginning, is_restart, is_ending, is_last}
use Rattle.mb_journal.specs.Phase.{phase_is}
use Rattle.mb_journal.specs.Supervision.{directive_of}
use Rattle.mb_actor.specs.declared.phase.Phase.TheVariants.{Live}

-- the actor is not failed
abbrev pub is_nobody : FailedBy → Bool
is_nobody Nobody = true
is_nobody _ = false

-- it was failed by this child
abbrev pub is_child : FailedBy → ActorId → Bool
is_child (Child y) x = is_same y x
is_child _ x = false

-- why an actor fails that was sent this body and gave this answer: it was killed, it answered that it failed, or it left a
-- Terminated unhandled (`ActorCell.autoReceiveMessage`, `DeathWatch.receivedTerminated`)
abbrev pub failure_of : Body → Option Answer → Option Cause
failure_of body.Kill a = Some cause.Killed
failure_of (body.Terminated x) (Some answer.Unhandled) = Some cause.DeathPact
failure_of _ (Some (answer.Failed n)) = Some (cause.Error n)
failure_of _ _ = None

-- the actor fails by an envelope
abbrev pub fails_by_envelope : Entry → Bool
fails_by_envelope (Handled envelope reading outcome) = is_some (failure_of envelope.body (outcome_answer outcome))
fails_by_envelope _ = false

abbrev pub is_escalate : Directive → Bool
is_escalate directive.Escalate = true
is_escalate _ = false

-- the actor escalates the failure of a child
abbrev pub is_escalation : Identity → Entry → List Entry → Bool
is_escalation who (System number (system.Failed x c) (Applied answer effects)) before =
    has (children who before) x && is_escalate (directive_of who c)
is_escalation who _ before = false

-- a failure: a start or restart that is answered with a failure; or, where the actor is not failed already, a Kill, an
-- envelope that is answered with a failure, an unhandled Terminated, or an escalation. `by` is by whom it was failed before
abbrev pub is_failure_by : FailedBy → Identity → Entry → List Entry → Bool
is_failure_by by who e before =
    (is_beginning who e before && answered_failed e) || (is_nobody by && (fails_by_envelope e || is_escalation who e before))

-- who made the actor fail: the child whose failure it escalates, or else the actor itself
abbrev pub failure_source : Entry → FailedBy
failure_source (System number (system.Failed x c) outcome) = Child x
failure_source _ = Itself

abbrev pub is_resume_of_failure : SysMsg → Bool
is_resume_of_failure (system.Resume true) = true
is_resume_of_failure _ = false

-- by whom the actor is failed after an entry: after a failure, who made it fail; nobody after a restart, or after a Resume
-- for its failure, while Live; itself once it waits for the end of its children; else as before
abbrev pub failed_after : FailedBy → Identity → Entry → List Entry → FailedBy
failed_after by who e before =
    if is_failure_by by who e before then failure_source e
    else (if is_restart who e before then Nobody
    else (if applies is_resume_of_failure e && phase_is (phase who before) Live then Nobody
    else (if is_ending e before && not (is_last who e before) then Itself
    else by)))

-- by whom the actor is failed: what the newest failure, restart, Resume for its failure, or ending that waits for
-- children says, and nobody without these
unfoldable pub failed : Identity → List Entry → FailedBy
failed who [] = Nobody
failed who (e ∷ before) = failed_after (failed who before) who e before

-- the actor fails by this entry, whoever made it fail before
abbrev pub is_failure : Identity → Entry → List Entry → Bool
is_failure who e before = is_failure_by (failed who before) who e before
