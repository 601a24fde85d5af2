-- What each message does to the state of a cell, in the order of the rules (`akka.actor.ActorCell`, `FaultHandling`,
-- `Children`, `DeathWatch`; what is this project's own profile is said at the definitions of a journal). The acts are those
-- of the message.
use Rattle.std.specs.Prelude.{ℕ, ◌+◌, ◌-◌, Bool, true, false, not, ◌&&◌, if◌then◌else◌, List, [], ◌∷◌, ◌++◌, map, Option, Some, None}
use Rattle.std.specs.List.{flat_map, list_all}
use Rattle.mb_msg.specs.declared.envelope.Body.{Body}
use Rattle.mb_msg.specs.declared.envelope.Body.TheVariants as body
use Rattle.mb_msg.specs.declared.id.ActorId.{ActorId}
use Rattle.mb_msg.specs.declared.supervision.Cause.{Cause}
use Rattle.mb_msg.specs.declared.supervision.Cause.TheVariants as cause
use Rattle.mb_msg.specs.declared.supervision.Directive.{Directive}
use Rattle.mb_msg.specs.declared.supervision.Directive.TheVariants as directive
use Rattle.mb_msg.specs.declared.system.SysMsg.{SysMsg}
use Rattle.mb_msg.specs.declared.system.SysMsg.TheVariants as system
use Rattle.mb_actor.specs.ActorList.{has}
use Rattle.mb_actor.specs.OutboxView.{spawns_of}
use Rattle.mb_actor.specs.declared.answer.Answer.{Answer}
use Rattle.mb_actor.specs.declared.effect.Effect.{Effect}
use Rattle.mb_actor.specs.declared.phase.Phase.TheVariants.{Live, Broken, Ending, Ended}
use Rattle.mb_journal.specs.ActorList.{without, joined}
use Rattle.mb_journal.specs.Acts.{to_each, restart_for, effect_acts, fail_acts, end_acts}
use Rattle.mb_journal.specs.Acts.Act.{Tell, Sys, SuspendSelf, ResumeSelf}
use Rattle.mb_journal.specs.Aside.{without_number}
use Rattle.mb_journal.specs.Entry.{is_failed}
use Rattle.mb_journal.specs.Failure.{is_nobody, is_child, failure_of}
use Rattle.mb_journal.specs.declared.failed_by.FailedBy.{FailedBy}
use Rattle.mb_journal.specs.declared.failed_by.FailedBy.TheVariants.{Nobody, Itself, Child}
use Rattle.mb_journal.specs.Identity.{Identity}
use Rattle.mb_journal.specs.Phase.{phase_is}
use Rattle.mb_journal.specs.Retries.{permits, is_restart_directive, through_refusal}
use Rattle.mb_journal.specs.Supervision.{directive_of}
use Rattle.mb_journal.specs.Watching.{watching_after, due_after}
use Rattle.mb_supervision.specs.CellStateRecord.{CellState}
use Rattle.mb_supervision.specs.RetryCounts.{counted_more, retry_count_of}

-- ---- parts of rules

-- a message with this number was taken: it is no longer set aside, and the room for it is used up
abbrev pub taken : ℕ → CellState → CellState
taken number b = record b { aside = without_number b.aside number; is_ready = false }

-- the effects of a call were carried out
abbrev pub with_effects : Identity → List Effect → CellState → CellState
with_effects who effects b = record b {
  children = b.children ++ spawns_of effects;
  watching = watching_after who.this b.watching effects;
  due = due_after b.due effects;
  acts = b.acts ++ effect_acts who.this b.watching effects;
}

-- the actor failed, by this one and for this cause, unless it is failed already; some children are not suspended
abbrev pub failing : Identity → FailedBy → Cause → List ActorId → CellState → CellState
failing who by c except b = record b {
  count = if is_nobody b.failed then b.count + 1 else b.count;
  failed = if is_nobody b.failed then by else b.failed;
  acts = b.acts ++ fail_acts who b.failed b.children c except;
}

-- the actor ended
abbrev pub ended : Identity → List Effect → CellState → CellState
ended who effects b = record b {
  phase = Ended;
  count = 0;
  aside = [];
  acts = b.acts ++ end_acts who b.watchers effects;
}

-- one more restart of a child is permitted
abbrev pub given_now : Identity → CellState → ActorId → Bool
given_now who b y = permits who.retries (retry_count_of b.retries y + 1)

-- the children whom a decision about one is for
abbrev pub meant_now : Identity → CellState → ActorId → List ActorId
meant_now who b x = if who.all_for_one then b.children else x ∷ []

-- the counts of requests after the decision: where it is to restart, a restart is requested of each child up to and with the
-- first that is refused
abbrev pub counted_now : Identity → CellState → ActorId → Cause → ActorId → ℕ
counted_now who b x c =
    if is_restart_directive (directive_of who c)
    then counted_more who.retries (through_refusal (given_now who b) (meant_now who b x)) (λ y. retry_count_of b.retries y)
    else (λ y. retry_count_of b.retries y)

-- what is carried out: a restart that is not permitted becomes a stop
abbrev pub carried_out_now : Identity → CellState → ActorId → Cause → Directive
carried_out_now who b x c =
    if is_restart_directive (directive_of who c) && not (list_all (given_now who b) (meant_now who b x)) then directive.Stop
    else directive_of who c

-- ---- system messages

-- a system message that changes nothing
abbrev pub ignored : ℕ → CellState → CellState
ignored number b = taken number b

-- the first Create of an actor
abbrev pub created : Identity → Option Answer → List Effect → ℕ → CellState → CellState
created who a effects number b =
    let started = with_effects who effects (record (taken number b) { phase = Live; count = b.count - 1; acts = ResumeSelf ∷ [] }) in
    if is_failed a then failing who Itself cause.Init [] (record started { phase = Broken }) else started

-- the first Create of the guardian
abbrev pub created_guardian : Identity → ℕ → CellState → CellState
created_guardian who number b = record (taken number b) {
  phase = Live;
  count = b.count - 1;
  children = b.children ++ who.prepared;
  acts = ResumeSelf ∷ to_each system.Create who.prepared;
}

-- a Suspend: the count is one more, and the acts suspend the actor's own mailbox and each child
abbrev pub suspended : ℕ → CellState → CellState
suspended number b = record (taken number b) { count = b.count + 1; acts = SuspendSelf ∷ to_each system.Suspend b.children }

-- a Resume while Live
abbrev pub resumed : Bool → ℕ → CellState → CellState
resumed of_failure number b = record (taken number b) {
  count = b.count - 1;
  failed = if of_failure then Nobody else b.failed;
  acts = ResumeSelf ∷ map (λ x. Sys x (system.Resume (of_failure && is_child b.failed x))) b.children;
}

-- a Recreate while Live or Broken, or a Resume while Broken
abbrev pub recreated : Identity → Cause → Option Answer → List Effect → ℕ → CellState → CellState
recreated who c a effects number b =
    let begun = with_effects who effects (record (taken number b) { count = b.count - 1; failed = Nobody; acts = ResumeSelf ∷ [] }) in
    if is_failed a then failing who Itself cause.Init b.children (record begun { phase = Broken })
    else record begun { phase = Live; acts = begun.acts ++ to_each (system.Recreate c) b.children }

-- this directive is carried out for a child's failure: a resumption, a restart or a stop, or the actor fails itself where it
-- escalates
abbrev pub supervised_by : Identity → ActorId → Cause → Directive → CellState → CellState
supervised_by who x c directive.Resume b = record b { acts = Sys x (system.Resume true) ∷ [] }
supervised_by who x c directive.Restart b = record b { acts = flat_map (restart_for x c) (meant_now who b x) }
supervised_by who x c directive.Stop b = record b { acts = to_each system.Terminate (meant_now who b x) }
supervised_by who x c directive.Escalate b = failing who (Child x) c (x ∷ []) (record b { acts = [] })

-- a Failed of a child, with the counts of requests after it
abbrev pub supervised : Identity → ActorId → Cause → ℕ → List (ActorId × ℕ) → CellState → CellState
supervised who x c number counts b =
    supervised_by who x c (carried_out_now who b x c)
    (record (taken number b) { retries = counts })

-- a Terminate of an actor with children that is not Ending
abbrev pub ending : Identity → ℕ → CellState → CellState
ending who number b = record (taken number b) {
  phase = Ending;
  count = b.count + 1;
  failed = Itself;
  watching = [];
  due = [];
  was_live = phase_is b.phase Live;
  acts = to_each (system.Unwatch who.this) b.watching ++ to_each system.Terminate b.children ++ SuspendSelf ∷ [];
}

-- a Terminate of an actor without children
abbrev pub ended_at_once : Identity → List Effect → ℕ → CellState → CellState
ended_at_once who effects number b = ended who effects (record (taken number b) {
  watching = [];
  due = [];
  was_live = phase_is b.phase Live;
  acts = to_each (system.Unwatch who.this) b.watching;
})

-- a Watch: the watcher joins, unless it is there, and there are no acts
abbrev pub watched_by : ActorId → ℕ → CellState → CellState
watched_by w number b = record (taken number b) { watchers = joined b.watchers w; acts = [] }

-- an Unwatch: the watcher leaves, and there are no acts
abbrev pub no_longer_watched_by : ActorId → ℕ → CellState → CellState
no_longer_watched_by w number b = record (taken number b) { watchers = without b.watchers w; acts = [] }

-- a Died of another actor: it is no longer a child and no longer watched; if it was watched, its end is still to be told, and
-- the actor is sent a Terminated
abbrev pub told_of_death : Identity → ActorId → ℕ → CellState → CellState
told_of_death who x number b = record (taken number b) {
  children = without b.children x;
  watching = without b.watching x;
  due = if has b.watching x then joined b.due x else b.due;
  acts = if has b.watching x then Tell who.this (body.Terminated x) ∷ [] else [];
}

-- a system message that is set aside
abbrev pub put_aside : ℕ → SysMsg → CellState → CellState
put_aside number message b = record b { aside = b.aside ++ (number, message) ∷ []; acts = []; is_ready = false }

-- ---- envelopes

-- after a Terminated its actor's end is no longer to be told
abbrev pub due_told : Body → List ActorId → List ActorId
due_told (body.Terminated x) list = without list x
due_told _ list = list

-- the actor failed by itself, if there is a cause
abbrev pub failing_if : Identity → Option Cause → CellState → CellState
failing_if who None b = b
failing_if who (Some c) b = failing who Itself c [] b

-- an envelope with this body was handled, with this answer and these effects
abbrev pub handled : Identity → Body → Option Answer → List Effect → CellState → CellState
handled who carried a effects b =
    failing_if who (failure_of carried a)
    (with_effects who effects (record b { due = due_told carried b.due; acts = []; is_ready = false }))

-- a PoisonPill
abbrev pub poisoned : Identity → CellState → CellState
poisoned who b = record b { acts = Sys who.this system.Terminate ∷ []; is_ready = false }

-- an envelope that is dropped
abbrev pub discard : CellState → CellState
discard b = record b { acts = []; is_ready = false }
