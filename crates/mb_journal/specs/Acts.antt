-- The acts of an entry: what an actor's cell has to do about a message beside changing its own lists, in order
-- (`akka.actor.ActorCell`, `akka.actor.dungeon.FaultHandling`, `Children`, `DeathWatch`; the order of the acts of one
-- message is this project's own profile). In each definition `before` is what came before the entry.
use Rattle.std.specs.Prelude.{Bool, true, not, ◌&&◌, ◌||◌, if◌then◌else◌, List, [], ◌∷◌, ◌++◌, map, filter, Option, Some, None}
use Rattle.std.specs.List.{flat_map}
use Rattle.mb_msg.specs.declared.envelope.Body.{Body}
use Rattle.mb_msg.specs.declared.envelope.Body.TheVariants as body
use Rattle.mb_msg.specs.declared.id.ActorId.{ActorId}
use Rattle.mb_msg.specs.declared.supervision.Cause.{Cause}
use Rattle.mb_msg.specs.declared.supervision.Cause.TheVariants as cause
use Rattle.mb_msg.specs.declared.supervision.Directive.{Directive}
use Rattle.mb_msg.specs.declared.supervision.Directive.TheVariants as directive
use Rattle.mb_msg.specs.declared.system.SysMsg.{SysMsg}
use Rattle.mb_msg.specs.declared.system.SysMsg.TheVariants as system
use Rattle.mb_actor.specs.declared.answer.Answer.{Answer}
use Rattle.mb_actor.specs.declared.effect.Effect.{Effect}
use Rattle.mb_actor.specs.declared.effect.Effect.TheVariants as effect
use Rattle.mb_actor.specs.ActorList.{is_same, has}
use Rattle.mb_journal.specs.ActorList.{without}
use Rattle.mb_actor.specs.OutboxView.{spawns_of}
use Rattle.mb_journal.specs.Entry.{Entry, outcome_answer, outcome_effects, is_failed}
use Rattle.mb_journal.specs.Entry.Entry.{Handled, System, Dropped}
use Rattle.mb_journal.specs.Entry.Outcome.{Applied, SetAside}
use Rattle.mb_journal.specs.Failure.{is_nobody, is_child, failed, failure_of}
use Rattle.mb_journal.specs.declared.failed_by.FailedBy.{FailedBy}
use Rattle.mb_journal.specs.declared.failed_by.FailedBy.TheVariants.{Nobody}
use Rattle.mb_journal.specs.Identity.{Identity, is_guardian}
use Rattle.mb_journal.specs.Life.{children, phase, is_empty, is_alone}
use Rattle.mb_journal.specs.Phase.{phase_is}
use Rattle.mb_journal.specs.Retries.{meant_by, carried_out}
use Rattle.mb_journal.specs.Watching.{watchers, watching}
use Rattle.mb_actor.specs.declared.phase.Phase.TheVariants.{Fresh, Live, Broken, Ending}

-- an act: to send an envelope with this body, or a system message, to an actor; to suspend or resume the actor's own
-- mailbox by one; or to close it for good
pub data Act : Type 0 where
  Tell : ActorId → Body → Act
  Sys : ActorId → SysMsg → Act
  SuspendSelf : Act
  ResumeSelf : Act
  CloseSelf : Act

-- the same system message to each of these
abbrev pub to_each : SysMsg → List ActorId → List Act
to_each message list = map (λ x. Sys x message) list

-- the acts of effects, one after another, of an actor that watches these: a watch of itself or of one that it watches
-- does nothing, nor does an unwatch of one that it does not watch
unfoldable pub effect_acts : ActorId → List ActorId → List Effect → List Act
effect_acts this watched [] = []
effect_acts this watched (effect.Tell to kind value ∷ effects) = Tell to (body.User kind value) ∷ effect_acts this watched effects
effect_acts this watched (effect.Control to kind value ∷ effects) = Tell to (body.Control kind value) ∷ effect_acts this watched effects
effect_acts this watched (effect.Watch x ∷ effects) =
    if is_same this x || has watched x then effect_acts this watched effects
    else Sys x (system.Watch this) ∷ effect_acts this (watched ++ x ∷ []) effects
effect_acts this watched (effect.Unwatch x ∷ effects) =
    if has watched x then Sys x (system.Unwatch this) ∷ effect_acts this (without watched x) effects
    else effect_acts this watched effects
effect_acts this watched (effect.Stop x ∷ effects) = Sys x system.Terminate ∷ effect_acts this watched effects
effect_acts this watched (effect.Spawn x ∷ effects) = Sys x system.Create ∷ effect_acts this watched effects

-- the acts of the effects of an actor's `stop`: its tells, control messages too
abbrev pub stop_acts : List Effect → List Act
stop_acts [] = []
stop_acts (effect.Tell to kind value ∷ effects) = Tell to (body.User kind value) ∷ stop_acts effects
stop_acts (effect.Control to kind value ∷ effects) = Tell to (body.Control kind value) ∷ stop_acts effects
stop_acts (_ ∷ effects) = stop_acts effects

-- the parent is told; the guardian, which has none, ends
abbrev pub report : Identity → Cause → Act
report who c = report_to who.parent
  where
    report_to : Option ActorId → Act
    report_to (Some parent) = Sys parent (system.Failed who.this c)
    report_to None = Sys who.this system.Terminate

-- the actor fails: unless it is failed already, its mailbox is suspended and so are its children, but for some, and its
-- parent is told (`FaultHandling.handleInvokeFailure`)
abbrev pub fail_acts : Identity → FailedBy → List ActorId → Cause → List ActorId → List Act
fail_acts who by own c except =
    if is_nobody by
    then SuspendSelf ∷ to_each system.Suspend (filter (λ x. not (has except x)) own) ++ report who c ∷ []
    else []

-- the acts of a start (`ActorCell.create`); the guardian's starts its children
abbrev pub create_acts : Identity → List Entry → Option Answer → List Effect → List Act
create_acts who before a effects =
    if is_guardian who then ResumeSelf ∷ to_each system.Create who.prepared
    else ResumeSelf ∷ effect_acts who.this (watching who before) effects
    ++ (if is_failed a then fail_acts who (failed who before) (children who before ++ spawns_of effects) cause.Init [] else [])

-- the acts of a suspension (`FaultHandling.faultSuspend`)
abbrev pub suspend_acts : Identity → List Entry → List Act
suspend_acts who before = SuspendSelf ∷ to_each system.Suspend (children who before)

-- the acts of a resumption (`FaultHandling.faultResume`): the child whose failure the actor passed up is told that this is
-- for its failure
abbrev pub resume_acts : Identity → List Entry → Bool → List Act
resume_acts who before of_failure =
    ResumeSelf ∷ map (λ x. Sys x (system.Resume (of_failure && is_child (failed who before) x))) (children who before)

-- the acts of a restart (`FaultHandling.faultRecreate` and `finishRecreate`): the children that it had are restarted, or,
-- if it fails, suspended no more than they were
abbrev pub restart_acts : Identity → List Entry → Cause → Option Answer → List Effect → List Act
restart_acts who before c a effects =
    ResumeSelf ∷ effect_acts who.this (watching who before) effects
    ++ (if is_failed a
    then fail_acts who Nobody (children who before ++ spawns_of effects) cause.Init (children who before)
    else to_each (system.Recreate c) (children who before))

-- a child is restarted for the failure of one of them: a child other than that one is suspended first, since that one is
-- suspended already (`SupervisorStrategy.restartChild`)
abbrev pub restart_for : ActorId → Cause → ActorId → List Act
restart_for failing c y = if is_same y failing then Sys y (system.Recreate c) ∷ [] else Sys y system.Suspend ∷ Sys y (system.Recreate c) ∷ []

-- the acts of a directive about a child that failed, for all children that it is for; a Resume is for that child alone
-- (`SupervisorStrategy.handleFailure` and `processFailure`, `FaultHandling.handleFailure`)
abbrev pub supervision_acts : Identity → List Entry → ActorId → Cause → Directive → List Act
supervision_acts who before x c directive.Resume = Sys x (system.Resume true) ∷ []
supervision_acts who before x c directive.Restart = flat_map (restart_for x c) (meant_by who before x)
supervision_acts who before x c directive.Stop = to_each system.Terminate (meant_by who before x)
supervision_acts who before x c directive.Escalate = fail_acts who (failed who before) (children who before) c (x ∷ [])

-- the acts of the end of an actor that these watch (`FaultHandling.finishTerminate`): the mailbox is closed, and the parent and
-- the other watchers are told
abbrev pub end_acts : Identity → List ActorId → List Effect → List Act
end_acts who watched_by effects = stop_acts effects ++ CloseSelf ∷ told who.parent
  where
    told : Option ActorId → List Act
    told None = to_each (system.Died who.this) watched_by
    told (Some parent) = Sys parent (system.Died who.this) ∷ to_each (system.Died who.this) (without watched_by parent)

-- the acts of an ending (`FaultHandling.terminate`)
abbrev pub terminate_acts : Identity → List Entry → List Effect → List Act
terminate_acts who before effects =
    to_each (system.Unwatch who.this) (watching who before)
    ++ to_each system.Terminate (children who before)
    ++ (if is_empty (children who before) then end_acts who (watchers before) effects else SuspendSelf ∷ [])

-- the acts of the end of another actor (`DeathWatch.watchedActorTerminated`, `FaultHandling.handleChildTerminated`): the
-- actor is told if it watches it (in Akka the sender is the one that died: that it is the actor itself is this project's
-- own profile), and ends if it waits for this child alone
abbrev pub died_acts : Identity → List Entry → ActorId → List Effect → List Act
died_acts who before x effects =
    (if has (watching who before) x then Tell who.this (body.Terminated x) ∷ [] else [])
    ++ (if phase_is (phase who before) Ending && is_alone (children who before) x then end_acts who (watchers before) effects else [])

-- the acts of a system message that is applied to an actor that was started
abbrev pub system_acts : Identity → List Entry → SysMsg → Option Answer → List Effect → List Act
system_acts who before system.Create a effects = []
system_acts who before system.Suspend a effects = suspend_acts who before
system_acts who before (system.Resume of_failure) a effects =
    if phase_is (phase who before) Live then resume_acts who before of_failure
    else (if phase_is (phase who before) Broken && not (is_guardian who) then restart_acts who before cause.Init a effects else [])
system_acts who before (system.Recreate c) a effects = if is_guardian who then [] else restart_acts who before c a effects
system_acts who before (system.Failed x c) a effects =
    if has (children who before) x then supervision_acts who before x c (carried_out who before x c) else []
system_acts who before system.Terminate a effects =
    if phase_is (phase who before) Ending then [] else terminate_acts who before effects
system_acts who before (system.Watch w) a effects = []
system_acts who before (system.Unwatch w) a effects = []
system_acts who before (system.Died x) a effects = died_acts who before x effects

-- the acts of a system message that is applied to an actor that was never started (that it knows no others is Akka's;
-- that they do nothing is this project's own profile)
abbrev pub fresh_acts : Identity → List Entry → SysMsg → Option Answer → List Effect → List Act
fresh_acts who before system.Create a effects = create_acts who before a effects
fresh_acts who before system.Terminate a effects = terminate_acts who before effects
fresh_acts who before _ a effects = []

-- the acts of a failure by an envelope, if it is one
abbrev pub failure_acts : Identity → List Entry → Option Cause → List Effect → List Act
failure_acts who before None effects = []
failure_acts who before (Some c) effects = fail_acts who (failed who before) (children who before ++ spawns_of effects) c []

-- the acts of an envelope (`ActorCell.invoke`, `autoReceiveMessage`)
abbrev pub envelope_acts : Identity → List Entry → Body → Option Answer → List Effect → List Act
envelope_acts who before body.PoisonPill a effects = Sys who.this system.Terminate ∷ []
envelope_acts who before b a effects =
    effect_acts who.this (watching who before) effects ++ failure_acts who before (failure_of b a) effects

-- the acts of an entry after these; what is set aside or dropped has none
unfoldable pub acts : Identity → List Entry → Entry → List Act
acts who before (Handled envelope reading outcome) = envelope_acts who before envelope.body (outcome_answer outcome) (outcome_effects outcome)
acts who before (System number message (Applied a effects)) =
    if phase_is (phase who before) Fresh then fresh_acts who before message a effects else system_acts who before message a effects
acts who before (System number message SetAside) = []
acts who before (Dropped envelope) = []
