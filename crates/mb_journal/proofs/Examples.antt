-- Small journals whose phase, count, messages and acts were worked out by hand.
use Rattle.std.specs.Prelude.{Bool, false, ◌≡◌, refl, ℤ, pos, ℕ, true, List, [], ◌∷◌, Option, Some, None}
use Rattle.mb_msg.specs.declared.envelope.Body.{Body}
use Rattle.mb_msg.specs.declared.envelope.Body.TheVariants as body
use Rattle.mb_msg.specs.declared.id.ActorId.{ActorId}
use Rattle.mb_msg.specs.declared.supervision.Cause.TheVariants as cause
use Rattle.mb_msg.specs.declared.supervision.Directive.{Directive}
use Rattle.mb_msg.specs.declared.supervision.Directive.TheVariants as directive
use Rattle.mb_msg.specs.declared.system.SysMsg.{SysMsg}
use Rattle.mb_msg.specs.declared.system.SysMsg.TheVariants as system
use Rattle.mb_actor.specs.declared.call.Call.TheVariants.{Start, Receive, Restart, Stop}
use Rattle.mb_actor.specs.declared.answer.Answer.{Answer}
use Rattle.mb_actor.specs.declared.answer.Answer.TheVariants as answer
use Rattle.mb_actor.specs.declared.effect.Effect.{Effect}
use Rattle.mb_actor.specs.declared.effect.Effect.TheVariants as effect
use Rattle.mb_actor.specs.declared.message.Message.{Message}
use Rattle.mb_actor.specs.declared.message.Message.TheVariants as message
use Rattle.mb_journal.specs.Acts.{acts, effect_acts}
use Rattle.mb_journal.specs.Acts.Act.{Tell, Sys, SuspendSelf, ResumeSelf, CloseSelf}
use Rattle.mb_journal.specs.Aside.{aside, ever_aside, next_front, next_number}
use Rattle.mb_journal.specs.Entry.{Entry}
use Rattle.mb_journal.specs.Entry.Entry.{Dropped, Handled, System}
use Rattle.mb_journal.specs.Entry.Outcome.{Applied, SetAside}
use Rattle.mb_journal.specs.Failure.{failed}
use Rattle.mb_journal.specs.declared.failed_by.FailedBy.TheVariants.{Nobody, Itself, Child}
use Rattle.mb_journal.specs.Identity.{Identity}
use Rattle.mb_journal.specs.Incarnation.{messages}
use Rattle.mb_journal.specs.Lawful.{calls, was_live}
use Rattle.mb_journal.specs.Life.{children, phase, has_start, has_ending}
use Rattle.mb_journal.specs.Retries.{requests, retry_count}
use Rattle.mb_journal.specs.Suspension.{count, marks, pluses, minuses, greatest_net}
use Rattle.mb_journal.specs.Watching.{watchers, watching, due}
use Rattle.mb_actor.specs.declared.phase.Phase.{Phase}
use Rattle.mb_actor.specs.declared.phase.Phase.TheVariants.{Broken, Fresh, Live, Ending, Ended}
use Rattle.mb_msg.specs.Strategy.{no_limit}
use Rattle.mb_msg.specs.declared.strategy.Pattern.{Pattern}
use Rattle.mb_msg.specs.declared.strategy.Pattern.TheVariants as cases

abbrev the : ℕ → ActorId
the n = record { 0 = n }

-- an actor whose parent is the guardian, and which has children 2 and 3 and this strategy
abbrev supervising : List (Pattern × Directive) → ℤ → Bool → Identity
supervising rows retries all_for_one = record {
  this = the 1;
  parent = Some (the 0);
  actors = 4;
  prepared = the 2 ∷ the 3 ∷ [];
  strategy = rows;
  retries = retries;
  all_for_one = all_for_one;
  limit = 100;
  retention = record { keeps_all = true; last = 0 };
}

abbrev an_actor : List (Pattern × Directive) → Identity
an_actor rows = supervising rows no_limit false

abbrev plain : Identity
plain = an_actor []

abbrev escalating : Identity
escalating = an_actor ((cases.Any, directive.Escalate) ∷ [])

-- an entry of a message that a sender outside sent
abbrev handled : Body → Option Answer → Entry
handled b a = Handled (record { by = record { 0 = 64 }; number = 0; to = the 1; body = b }) 2 (Applied a [])

abbrev add : ℕ → Entry
add value = handled (body.User 1 (pos value)) (Some answer.Handled)

abbrev fail : Entry
fail = handled (body.User 2 (pos 0)) (Some (answer.Failed 1))

abbrev silent : ℕ → SysMsg → Entry
silent number m = System number m (Applied None [])

abbrev called : ℕ → SysMsg → Entry
called number m = System number m (Applied (Some answer.Handled) [])

abbrev created : Entry
created = called 0 system.Create

-- entries of an actor that handled, failed, was poisoned, was restarted, ..
abbrev poison : Entry
poison = handled body.PoisonPill None

abbrev restarted : ℕ → Entry
restarted number = called number (system.Recreate (cause.Error 1))

abbrev spawns : List ActorId → List Effect
spawns [] = []
spawns (x ∷ list) = effect.Spawn x ∷ spawns list

-- the start of an actor that starts these children
abbrev parent_of : List ActorId → Entry
parent_of list = System 0 system.Create (Applied (Some answer.Handled) (spawns list))

-- the failure of child 2
abbrev child_failed : Entry
child_failed = silent 1 (system.Failed (the 2) (cause.Error 1))

abbrev set_aside_failure : Entry
set_aside_failure = System 2 (system.Failed (the 2) (cause.Error 1)) SetAside

abbrev asked : Body → Option Answer → List Effect → Entry
asked b a effects = Handled (record { by = record { 0 = 64 }; number = 0; to = the 1; body = b }) 2 (Applied a effects)

abbrev watches_2 : Entry
watches_2 = asked (body.User 3 (pos 0)) (Some answer.Handled) (effect.Watch (the 2) ∷ [])

abbrev unwatches_2 : Entry
unwatches_2 = asked (body.User 4 (pos 0)) (Some answer.Handled) (effect.Unwatch (the 2) ∷ [])

abbrev watches_spawns_fails : Entry
watches_spawns_fails =
    asked (body.User 3 (pos 0)) (Some (answer.Failed 1))
    (effect.Watch (the 2) ∷ effect.Watch (the 2) ∷ effect.Watch (the 1) ∷ effect.Spawn (the 3) ∷ [])

abbrev the_guardian : Identity
the_guardian = record {
  this = the 0;
  parent = None;
  actors = 3;
  prepared = the 1 ∷ the 2 ∷ [];
  strategy = [];
  retries = no_limit;
  all_for_one = false;
  limit = 100;
  retention = record { keeps_all = true; last = 0 };
}

-- what the actor was given to handle
abbrev added : ℕ → Message
added value = message.User 1 (pos value)

abbrev told_to_fail : Message
told_to_fail = message.User 2 (pos 0)

-- what a journal shows of an actor
abbrev shown : Identity → List Entry → Phase × ℕ × List Message
shown who journal = (phase who journal, count who journal, messages who journal)

-- an actor that was never started is suspended once
not_started : shown plain [] ≡ (Fresh, 1, [])
unfolding phase children has_start has_ending failed marks pluses minuses greatest_net count messages
not_started = refl

-- adds of 1 to 5
five_adds :
    shown plain (add 5 ∷ add 4 ∷ add 3 ∷ add 2 ∷ add 1 ∷ created ∷ [])
    ≡ (Live, 0, added 1 ∷ added 2 ∷ added 3 ∷ added 4 ∷ added 5 ∷ [])
unfolding phase children has_start has_ending failed marks pluses minuses greatest_net count messages
five_adds = refl

-- the first failure suspends the mailbox, so that the second waits
after_a_failure : shown plain (fail ∷ created ∷ []) ≡ (Live, 1, told_to_fail ∷ [])
unfolding phase children has_start has_ending failed marks pluses minuses greatest_net count messages
after_a_failure = refl

acts_of_a_failure : acts plain (created ∷ []) fail ≡ SuspendSelf ∷ Sys (the 0) (system.Failed (the 1) (cause.Error 1)) ∷ []
unfolding acts effect_acts requests phase children has_start has_ending failed watching watchers
acts_of_a_failure = refl

-- a restart takes the suspension away and forgets what was handled
after_a_restart : shown plain (restarted 1 ∷ fail ∷ created ∷ []) ≡ (Live, 0, [])
unfolding phase children has_start has_ending failed marks pluses minuses greatest_net count messages
after_a_restart = refl

after_two_restarts : shown plain (restarted 2 ∷ fail ∷ restarted 1 ∷ fail ∷ created ∷ []) ≡ (Live, 0, [])
unfolding phase children has_start has_ending failed marks pluses minuses greatest_net count messages
after_two_restarts = refl

-- a child that handles add 5, fail, add 7, restarted after the failure
restarted_child : shown plain (add 7 ∷ restarted 1 ∷ fail ∷ add 5 ∷ created ∷ []) ≡ (Live, 0, added 7 ∷ [])
unfolding phase children has_start has_ending failed marks pluses minuses greatest_net count messages
restarted_child = refl

-- resumed after the failure
resumed_child :
    shown plain (add 7 ∷ silent 1 (system.Resume true) ∷ fail ∷ add 5 ∷ created ∷ [])
    ≡ (Live, 0, added 5 ∷ told_to_fail ∷ added 7 ∷ [])
unfolding phase children has_start has_ending failed marks pluses minuses greatest_net count messages
resumed_child = refl

-- stopped after the failure
stopped_child :
    shown plain (silent 1 system.Terminate ∷ fail ∷ add 5 ∷ created ∷ [])
    ≡ (Ended, 0, added 5 ∷ told_to_fail ∷ [])
unfolding phase children has_start has_ending failed marks pluses minuses greatest_net count messages
stopped_child = refl

-- a failing actor is failed by itself, until it is restarted
failed_by_itself : failed plain (fail ∷ created ∷ []) ≡ Itself
unfolding phase children has_start has_ending failed
failed_by_itself = refl

failed_by_nobody : failed plain (restarted 1 ∷ fail ∷ created ∷ []) ≡ Nobody
unfolding phase children has_start has_ending failed
failed_by_nobody = refl

-- add 1, a poison pill, and the Terminate that it sends
poisoned : shown plain (silent 1 system.Terminate ∷ poison ∷ add 1 ∷ created ∷ []) ≡ (Ended, 0, added 1 ∷ [])
unfolding phase children has_start has_ending failed marks pluses minuses greatest_net count messages
poisoned = refl

acts_of_poison : acts plain (add 1 ∷ created ∷ []) poison ≡ Sys (the 1) system.Terminate ∷ []
unfolding acts effect_acts requests phase children has_start has_ending failed watching watchers
acts_of_poison = refl

acts_of_the_end :
    acts plain (poison ∷ add 1 ∷ created ∷ []) (silent 1 system.Terminate)
    ≡ CloseSelf ∷ Sys (the 0) (system.Died (the 1)) ∷ []
unfolding acts effect_acts requests phase children has_start has_ending failed watching watchers
acts_of_the_end = refl

-- a parent starts one child, or two
acts_of_a_parent :
    acts plain [] (parent_of (the 2 ∷ the 3 ∷ []))
    ≡ ResumeSelf ∷ Sys (the 2) system.Create ∷ Sys (the 3) system.Create ∷ []
unfolding acts effect_acts requests phase children has_start has_ending failed watching watchers
acts_of_a_parent = refl

-- by default a child that failed with an error is restarted
restarting_a_child :
    acts plain (parent_of (the 2 ∷ []) ∷ []) child_failed
    ≡ Sys (the 2) (system.Recreate (cause.Error 1)) ∷ []
unfolding acts effect_acts requests phase children has_start has_ending failed watching watchers
restarting_a_child = refl

-- a strategy that resumes or stops
resuming_a_child :
    acts (an_actor ((cases.AnyError, directive.Resume) ∷ [])) (parent_of (the 2 ∷ []) ∷ []) child_failed
    ≡ Sys (the 2) (system.Resume true) ∷ []
unfolding acts effect_acts requests phase children has_start has_ending failed watching watchers
resuming_a_child = refl

stopping_a_child :
    acts (an_actor ((cases.AnyError, directive.Stop) ∷ [])) (parent_of (the 2 ∷ []) ∷ []) child_failed
    ≡ Sys (the 2) system.Terminate ∷ []
unfolding acts effect_acts requests phase children has_start has_ending failed watching watchers
stopping_a_child = refl

-- a parent that escalates the failure of child 2: child 3 alone is suspended
escalation :
    acts escalating (parent_of (the 2 ∷ the 3 ∷ []) ∷ []) child_failed
    ≡ SuspendSelf ∷ Sys (the 3) system.Suspend ∷ Sys (the 0) (system.Failed (the 1) (cause.Error 1)) ∷ []
unfolding acts effect_acts requests phase children has_start has_ending failed watching watchers
escalation = refl

failed_by_the_child : failed escalating (child_failed ∷ parent_of (the 2 ∷ the 3 ∷ []) ∷ []) ≡ Child (the 2)
unfolding phase children has_start has_ending failed
failed_by_the_child = refl

escalated : shown escalating (child_failed ∷ parent_of (the 2 ∷ the 3 ∷ []) ∷ []) ≡ (Live, 1, [])
unfolding phase children has_start has_ending failed marks pluses minuses greatest_net count messages
escalated = refl

-- its restart restarts both
restart_of_a_parent :
    acts escalating (child_failed ∷ parent_of (the 2 ∷ the 3 ∷ []) ∷ []) (restarted 2)
    ≡ ResumeSelf ∷ Sys (the 2) (system.Recreate (cause.Error 1)) ∷ Sys (the 3) (system.Recreate (cause.Error 1)) ∷ []
unfolding acts effect_acts requests phase children has_start has_ending failed watching watchers
restart_of_a_parent = refl

restarted_parent : shown escalating (restarted 2 ∷ child_failed ∷ parent_of (the 2 ∷ the 3 ∷ []) ∷ []) ≡ (Live, 0, [])
unfolding phase children has_start has_ending failed marks pluses minuses greatest_net count messages
restarted_parent = refl

-- the sister: suspended, then restarted
restarted_sister : shown plain (restarted 2 ∷ silent 1 system.Suspend ∷ created ∷ []) ≡ (Live, 0, [])
unfolding phase children has_start has_ending failed marks pluses minuses greatest_net count messages
restarted_sister = refl

-- a failure of a child that comes while the parent ends is set aside, and is dead once it ended
set_aside :
    aside plain (set_aside_failure ∷ silent 1 system.Terminate ∷ parent_of (the 2 ∷ []) ∷ [])
    ≡ (2, system.Failed (the 2) (cause.Error 1)) ∷ []
unfolding phase children has_start has_ending failed marks pluses minuses greatest_net count messages aside ever_aside
set_aside = refl

dead_at_the_end :
    aside plain (silent 3 (system.Died (the 2)) ∷ set_aside_failure ∷ silent 1 system.Terminate ∷ parent_of (the 2 ∷ []) ∷ [])
    ≡ []
unfolding phase children has_start has_ending failed marks pluses minuses greatest_net count messages aside ever_aside
dead_at_the_end = refl

-- a parent waits for its child: suspended once, then ended
waiting_parent : shown plain (silent 1 system.Terminate ∷ parent_of (the 2 ∷ []) ∷ []) ≡ (Ending, 1, [])
unfolding phase children has_start has_ending failed marks pluses minuses greatest_net count messages
waiting_parent = refl

ended_parent :
    shown plain (silent 2 (system.Died (the 2)) ∷ silent 1 system.Terminate ∷ parent_of (the 2 ∷ []) ∷ [])
    ≡ (Ended, 0, [])
unfolding phase children has_start has_ending failed marks pluses minuses greatest_net count messages
ended_parent = refl

-- a call that watches an actor twice sends one Watch, and fails with the children that it spawned
effects_see_one_another :
    acts plain (created ∷ []) watches_spawns_fails
    ≡ Sys (the 2) (system.Watch (the 1)) ∷ Sys (the 3) system.Create ∷ SuspendSelf ∷ Sys (the 3) system.Suspend
    ∷ Sys (the 0) (system.Failed (the 1) (cause.Error 1)) ∷ []
unfolding acts effect_acts requests phase children has_start has_ending failed watching watchers
effects_see_one_another = refl

-- the end of a watched actor is told, and handled once
told_of_an_end :
    acts plain (watches_2 ∷ created ∷ []) (silent 1 (system.Died (the 2)))
    ≡ Tell (the 1) (body.Terminated (the 2)) ∷ []
unfolding acts effect_acts requests phase children has_start has_ending failed watching watchers
told_of_an_end = refl

due_of_an_end : due plain (silent 1 (system.Died (the 2)) ∷ watches_2 ∷ created ∷ []) ≡ the 2 ∷ []
unfolding has_ending watching due
due_of_an_end = refl

told_end :
    due plain (handled (body.Terminated (the 2)) (Some answer.Handled) ∷ silent 1 (system.Died (the 2)) ∷ watches_2 ∷ created ∷ [])
    ≡ []
unfolding has_ending watching due
told_end = refl

-- an end that is left unhandled makes the actor fail
death_pact :
    acts plain (silent 1 (system.Died (the 2)) ∷ watches_2 ∷ created ∷ []) (handled (body.Terminated (the 2)) (Some answer.Unhandled))
    ≡ SuspendSelf ∷ Sys (the 0) (system.Failed (the 1) cause.DeathPact) ∷ []
unfolding acts effect_acts requests phase children has_start has_ending failed watching watchers
death_pact = refl

-- the guardian starts its children
guardian_start :
    acts the_guardian [] (silent 0 system.Create)
    ≡ ResumeSelf ∷ Sys (the 1) system.Create ∷ Sys (the 2) system.Create ∷ []
unfolding acts effect_acts requests phase children has_start has_ending failed watching watchers
guardian_start = refl

guardian_children : children the_guardian (silent 0 system.Create ∷ []) ≡ the 1 ∷ the 2 ∷ []
unfolding has_start children
guardian_children = refl

-- a watcher that is no longer told of an end after its unwatch: the Terminated is dropped, and has no acts
unwatched : due plain (unwatches_2 ∷ silent 1 (system.Died (the 2)) ∷ watches_2 ∷ created ∷ []) ≡ []
unfolding has_ending watching due
unwatched = refl

acts_of_a_drop :
    acts plain (unwatches_2 ∷ silent 1 (system.Died (the 2)) ∷ watches_2 ∷ created ∷ [])
    (Dropped (record { by = record { 0 = 1 }; number = 0; to = the 1; body = body.Terminated (the 2) }))
    ≡ []
unfolding acts effect_acts requests phase children has_start has_ending failed watching watchers
acts_of_a_drop = refl

-- a killed actor is suspended once, and its parent is told
killed :
    acts plain (created ∷ []) (handled body.Kill None)
    ≡ SuspendSelf ∷ Sys (the 0) (system.Failed (the 1) cause.Killed) ∷ []
unfolding acts effect_acts requests phase children has_start has_ending failed watching watchers
killed = refl

count_of_a_kill : shown plain (handled body.Kill None ∷ created ∷ []) ≡ (Live, 1, [])
unfolding phase children has_start has_ending failed marks pluses minuses greatest_net count messages
count_of_a_kill = refl

-- an actor with watchers tells its parent first, and each watcher once
told_watchers :
    acts plain (silent 2 (system.Watch (the 0)) ∷ silent 1 (system.Watch (the 2)) ∷ created ∷ []) (silent 3 system.Terminate)
    ≡ CloseSelf ∷ Sys (the 0) (system.Died (the 1)) ∷ Sys (the 2) (system.Died (the 1)) ∷ []
unfolding acts effect_acts requests phase children has_start has_ending failed watching watchers
told_watchers = refl

-- a parent of two that is stopped while one has failed: the failure is set aside, and both are stopped
stopped_parent :
    acts plain (parent_of (the 2 ∷ the 3 ∷ []) ∷ []) (silent 1 system.Terminate)
    ≡ Sys (the 2) system.Terminate ∷ Sys (the 3) system.Terminate ∷ SuspendSelf ∷ []
unfolding acts effect_acts requests phase children has_start has_ending failed watching watchers
stopped_parent = refl

last_child :
    acts plain (silent 2 (system.Died (the 2)) ∷ silent 1 system.Terminate ∷ parent_of (the 2 ∷ the 3 ∷ []) ∷ []) (silent 3 (system.Died (the 3)))
    ≡ CloseSelf ∷ Sys (the 0) (system.Died (the 1)) ∷ []
unfolding acts effect_acts requests phase children has_start has_ending failed watching watchers
last_child = refl

-- a start that fails: suspended once again, and broken
broken : shown plain (System 0 system.Create (Applied (Some (answer.Failed 1)) []) ∷ []) ≡ (Broken, 1, [])
unfolding phase children has_start has_ending failed marks pluses minuses greatest_net count messages
broken = refl

acts_of_a_broken_start :
    acts plain [] (System 0 system.Create (Applied (Some (answer.Failed 1)) []))
    ≡ ResumeSelf ∷ SuspendSelf ∷ Sys (the 0) (system.Failed (the 1) cause.Init) ∷ []
unfolding acts effect_acts requests phase children has_start has_ending failed watching watchers
acts_of_a_broken_start = refl

-- a Resume restarts it
resumed_broken :
    shown plain (called 1 (system.Resume true) ∷ System 0 system.Create (Applied (Some (answer.Failed 1)) []) ∷ [])
    ≡ (Live, 0, [])
unfolding phase children has_start has_ending failed marks pluses minuses greatest_net count messages
resumed_broken = refl

-- a failure while suspended is set aside, and is due before all others once the count is 0
in_front :
    next_front plain (silent 3 (system.Resume false) ∷ set_aside_failure ∷ silent 1 system.Suspend ∷ parent_of (the 2 ∷ []) ∷ [])
    ≡ Some (2, system.Failed (the 2) (cause.Error 1))
unfolding phase children has_start has_ending failed marks pluses minuses greatest_net count messages aside ever_aside next_front
in_front = refl

behind : next_front plain (set_aside_failure ∷ silent 1 system.Suspend ∷ parent_of (the 2 ∷ []) ∷ []) ≡ None
unfolding phase children has_start has_ending failed marks pluses minuses greatest_net count messages aside ever_aside next_front
behind = refl

numbers :
    next_number (silent 2 (system.Failed (the 2) (cause.Error 1)) ∷ silent 3 (system.Resume false) ∷ set_aside_failure
    ∷ silent 1 system.Suspend ∷ parent_of (the 2 ∷ []) ∷ [])
    ≡ 4
unfolding next_number
numbers = refl

-- ---- retries, and all for one

-- the failure of a child, as the message of this number
abbrev failed_child : ℕ → ℕ → Entry
failed_child number child = silent number (system.Failed (the child) (cause.Error 1))

-- with 2 retries a child is restarted twice, and then stopped
abbrev with_2_retries : Identity
with_2_retries = supervising [] (pos 2) false

restarted_once :
    acts with_2_retries (parent_of (the 2 ∷ []) ∷ []) (failed_child 1 2)
    ≡ Sys (the 2) (system.Recreate (cause.Error 1)) ∷ []
unfolding acts effect_acts requests phase children has_start has_ending failed watching watchers
restarted_once = refl

restarted_twice :
    acts with_2_retries (failed_child 1 2 ∷ parent_of (the 2 ∷ []) ∷ []) (failed_child 2 2)
    ≡ Sys (the 2) (system.Recreate (cause.Error 1)) ∷ []
unfolding acts effect_acts requests phase children has_start has_ending failed watching watchers
restarted_twice = refl

stopped_at_last :
    acts with_2_retries (failed_child 2 2 ∷ failed_child 1 2 ∷ parent_of (the 2 ∷ []) ∷ []) (failed_child 3 2)
    ≡ Sys (the 2) system.Terminate ∷ []
unfolding acts effect_acts requests phase children has_start has_ending failed watching watchers
stopped_at_last = refl

counted_thrice :
    retry_count with_2_retries (failed_child 3 2 ∷ failed_child 2 2 ∷ failed_child 1 2 ∷ parent_of (the 2 ∷ []) ∷ []) (the 2)
    ≡ 3
unfolding requests children has_start
counted_thrice = refl

-- with none it is stopped at once, and not counted
stopped_at_once :
    acts (supervising [] (pos 0) false) (parent_of (the 2 ∷ []) ∷ []) (failed_child 1 2)
    ≡ Sys (the 2) system.Terminate ∷ []
unfolding acts effect_acts requests phase children has_start has_ending failed watching watchers
stopped_at_once = refl

not_counted : retry_count (supervising [] (pos 0) false) (failed_child 1 2 ∷ parent_of (the 2 ∷ []) ∷ []) (the 2) ≡ 0
unfolding requests children has_start
not_counted = refl

-- without a limit it is always restarted, and not counted
restarted_thrice :
    acts plain (failed_child 2 2 ∷ failed_child 1 2 ∷ parent_of (the 2 ∷ []) ∷ []) (failed_child 3 2)
    ≡ Sys (the 2) (system.Recreate (cause.Error 1)) ∷ []
unfolding acts effect_acts requests phase children has_start has_ending failed watching watchers
restarted_thrice = refl

unlimited : retry_count plain (failed_child 2 2 ∷ failed_child 1 2 ∷ parent_of (the 2 ∷ []) ∷ []) (the 2) ≡ 0
unfolding requests children has_start
unlimited = refl

-- all for one: the sister of the child that failed is suspended, and both are restarted
all_restarted :
    acts (supervising [] no_limit true) (parent_of (the 2 ∷ the 3 ∷ []) ∷ []) (failed_child 1 2)
    ≡ Sys (the 2) (system.Recreate (cause.Error 1)) ∷ Sys (the 3) system.Suspend ∷ Sys (the 3) (system.Recreate (cause.Error 1)) ∷ []
unfolding acts effect_acts requests phase children has_start has_ending failed watching watchers
all_restarted = refl

-- or, where it is not permitted, both are stopped
all_stopped :
    acts (supervising [] (pos 0) true) (parent_of (the 2 ∷ the 3 ∷ []) ∷ []) (failed_child 1 2)
    ≡ Sys (the 2) system.Terminate ∷ Sys (the 3) system.Terminate ∷ []
unfolding acts effect_acts requests phase children has_start has_ending failed watching watchers
all_stopped = refl

-- a Stop is for all, a Resume for the one
all_told_to_stop :
    acts (supervising ((cases.AnyError, directive.Stop) ∷ []) no_limit true) (parent_of (the 2 ∷ the 3 ∷ []) ∷ []) (failed_child 1 3)
    ≡ Sys (the 2) system.Terminate ∷ Sys (the 3) system.Terminate ∷ []
unfolding acts effect_acts requests phase children has_start has_ending failed watching watchers
all_told_to_stop = refl

one_resumed :
    acts (supervising ((cases.AnyError, directive.Resume) ∷ []) no_limit true) (parent_of (the 2 ∷ the 3 ∷ []) ∷ []) (failed_child 1 3)
    ≡ Sys (the 3) (system.Resume true) ∷ []
unfolding acts effect_acts requests phase children has_start has_ending failed watching watchers
one_resumed = refl

-- the first refusal ends the requests: child 2 had its one retry before child 3 existed, so that none is made for 3
abbrev spawns_3 : Entry
spawns_3 = asked (body.User 3 (pos 0)) (Some answer.Handled) (effect.Spawn (the 3) ∷ [])

abbrev one_retry_for_all : Identity
one_retry_for_all = supervising [] (pos 1) true

asked_for :
    requests one_retry_for_all (failed_child 2 3 ∷ spawns_3 ∷ failed_child 1 2 ∷ parent_of (the 2 ∷ []) ∷ [])
    ≡ the 2 ∷ the 2 ∷ []
unfolding requests children has_start
asked_for = refl

one_refusal_stops_all :
    acts one_retry_for_all (spawns_3 ∷ failed_child 1 2 ∷ parent_of (the 2 ∷ []) ∷ []) (failed_child 2 3)
    ≡ Sys (the 2) system.Terminate ∷ Sys (the 3) system.Terminate ∷ []
unfolding acts effect_acts requests phase children has_start has_ending failed watching watchers
one_refusal_stops_all = refl

-- ---- control messages

-- the actor handles one like any other message, and sends one that stays one
handled_control :
    shown plain (handled (body.Control 1 (pos 7)) (Some answer.Handled) ∷ created ∷ [])
    ≡ (Live, 0, message.Control 1 (pos 7) ∷ [])
unfolding phase children has_start has_ending failed marks pluses minuses greatest_net count messages
handled_control = refl

sends_control :
    acts plain (created ∷ []) (asked (body.User 3 (pos 0)) (Some answer.Handled) (effect.Control (the 2) 1 (pos 7) ∷ []))
    ≡ Tell (the 2) (body.Control 1 (pos 7)) ∷ []
unfolding acts effect_acts requests phase children has_start has_ending failed watching watchers
sends_control = refl

failed_control :
    acts plain (created ∷ []) (handled (body.Control 2 (pos 0)) (Some (answer.Failed 1)))
    ≡ SuspendSelf ∷ Sys (the 0) (system.Failed (the 1) (cause.Error 1)) ∷ []
unfolding acts effect_acts requests phase children has_start has_ending failed watching watchers
failed_control = refl

-- ---- the calls that a journal records

-- a start, two messages and a restart; a poison pill reaches the actor's cell alone, and its end is the actor's `stop`
calls_of_a_life :
    calls plain (silent 2 system.Terminate ∷ poison ∷ restarted 1 ∷ fail ∷ add 5 ∷ created ∷ [])
    ≡ Stop ∷ Restart (cause.Error 1) ∷ Receive told_to_fail ∷ Receive (added 5) ∷ Start ∷ []
unfolding phase children has_start has_ending calls was_live
calls_of_a_life = refl
