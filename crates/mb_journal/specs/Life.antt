-- An actor's life by its journal: what starts it, restarts it and ends it; its children; and the phase. In each definition
-- `before` is what came before the entry `e`.
use Rattle.std.specs.Prelude.{Bool, true, false, not, ◌&&◌, ◌||◌, if◌then◌else◌, List, [], ◌∷◌, ◌++◌}
use Rattle.std.specs.List.{list_any}
use Rattle.mb_msg.specs.declared.id.ActorId.{ActorId}
use Rattle.mb_msg.specs.declared.system.SysMsg.{SysMsg}
use Rattle.mb_msg.specs.declared.system.SysMsg.TheVariants as system
use Rattle.mb_actor.specs.ActorList.{is_same}
use Rattle.mb_journal.specs.ActorList.{without}
use Rattle.mb_actor.specs.OutboxView.{spawns_of}
use Rattle.mb_journal.specs.Effects.{applies, lasting_effects}
use Rattle.mb_journal.specs.Entry.{Entry, answered_failed}
use Rattle.mb_journal.specs.Entry.Entry.{System}
use Rattle.mb_journal.specs.Entry.Outcome.{Applied}
use Rattle.mb_journal.specs.Identity.{Identity, is_guardian}
use Rattle.mb_journal.specs.Phase.{phase_is}
use Rattle.mb_actor.specs.declared.phase.Phase.{Phase}
use Rattle.mb_actor.specs.declared.phase.Phase.TheVariants.{Fresh, Live, Broken, Ending, Ended}

abbrev pub is_create : SysMsg → Bool
is_create system.Create = true
is_create _ = false

abbrev pub is_terminate : SysMsg → Bool
is_terminate system.Terminate = true
is_terminate _ = false

abbrev pub is_recreate : SysMsg → Bool
is_recreate (system.Recreate cause) = true
is_recreate _ = false

abbrev pub is_resume : SysMsg → Bool
is_resume (system.Resume of_failure) = true
is_resume _ = false

-- a Create was applied
unfoldable pub has_start : List Entry → Bool
has_start journal = list_any (applies is_create) journal

-- a Terminate was applied
unfoldable pub has_ending : List Entry → Bool
has_ending journal = list_any (applies is_terminate) journal

-- a start: the first Create that is applied (`akka.actor.ActorCell.create`)
abbrev pub is_start : Entry → List Entry → Bool
is_start e before = applies is_create e && not (has_start before)

-- an ending: the first Terminate that is applied (`akka.actor.dungeon.FaultHandling.terminate`)
abbrev pub is_ending : Entry → List Entry → Bool
is_ending e before = applies is_terminate e && not (has_ending before)

-- the list without the child whose Died the entry applies
abbrev pub after_death : Entry → List ActorId → List ActorId
after_death (System number (system.Died x) (Applied answer effects)) list = without list x
after_death _ list = list

-- the children that the entry adds: those that the actor's effects spawn, and all that it may have at the guardian's start
abbrev pub spawned : Identity → Entry → List Entry → List ActorId
spawned who e before = if is_guardian who then (if is_start e before then who.prepared else []) else spawns_of (lasting_effects e)

-- the children, in order of spawning: those that were spawned and whose Died was not applied since
-- (`akka.actor.dungeon.Children`; the order is this project's own profile)
unfoldable pub children : Identity → List Entry → List ActorId
children who [] = []
children who (e ∷ before) = after_death e (children who before) ++ spawned who e before

-- the list names nobody
abbrev pub is_empty : List ActorId → Bool
is_empty [] = true
is_empty (x ∷ list) = false

-- the list is this actor alone
abbrev pub is_alone : List ActorId → ActorId → Bool
is_alone (y ∷ []) x = is_same y x
is_alone _ x = false

-- the entry applies the Died of the one child that is left
abbrev pub ends_last_child : Entry → List ActorId → Bool
ends_last_child (System number (system.Died x) (Applied answer effects)) left = is_alone left x
ends_last_child _ left = false

-- the entry is the actor's last: an ending without children, or, while it is Ending, the Died of its last child
-- (`FaultHandling.finishTerminate`). The phase is that before the entry
abbrev pub is_last_in : Phase → Identity → Entry → List Entry → Bool
is_last_in phase who e before =
    (is_ending e before && is_empty (children who before)) || (phase_is phase Ending && ends_last_child e (children who before))

-- a restart: a Recreate that is applied, or a Resume that is applied while Broken, but not while Fresh, and not of the
-- guardian (`FaultHandling.faultRecreate`; that a Resume restarts a Broken actor is this project's own profile)
abbrev pub is_restart_in : Phase → Identity → Entry → Bool
is_restart_in phase who e =
    (applies is_recreate e || (applies is_resume e && phase_is phase Broken)) && not (phase_is phase Fresh) && not (is_guardian who)

-- the phase after an entry, by what the entry is: Ended from the last on, Ending from the ending on, and else as the
-- newest start or restart was answered
abbrev pub phase_after : Phase → Identity → Entry → List Entry → Phase
phase_after phase who e before =
    if phase_is phase Ended || is_last_in phase who e before then Ended
    else (if phase_is phase Ending || is_ending e before then Ending
    else (if is_start e before || is_restart_in phase who e then (if answered_failed e then Broken else Live)
    else phase))

-- the phase: Ended with a last in the journal, else Ending with an ending in it, else Fresh without a start, else
-- Broken if the newest start or restart answered that it failed, else Live
-- (`akka.actor.ActorCell`, `FaultHandling`; the names are this project's own profile)
unfoldable pub phase : Identity → List Entry → Phase
phase who [] = Fresh
phase who (e ∷ before) = phase_after (phase who before) who e before

-- the actor's last entry: an ending without children, or, while Ending, the Died of the last child
abbrev pub is_last : Identity → Entry → List Entry → Bool
is_last who e before = is_last_in (phase who before) who e before

-- a restart: an applied Recreate, or an applied Resume while Broken; not while Fresh, and not of the guardian
abbrev pub is_restart : Identity → Entry → List Entry → Bool
is_restart who e before = is_restart_in (phase who before) who e

-- a start or a restart: the actor's content counts messages from here on
abbrev pub is_beginning : Identity → Entry → List Entry → Bool
is_beginning who e before = is_start e before || is_restart who e before

-- the mailbox is closed: the actor ended
abbrev pub closed : Identity → List Entry → Bool
closed who journal = phase_is (phase who journal) Ended
