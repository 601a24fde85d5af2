-- To whom the acts of a message go, by the newest entry or effect that speaks of each actor.
use Rattle.std.specs.Prelude.{◌≡◌, Bool, true, false, not, ◌&&◌, ◌||◌, if◌then◌else◌, List, [], ◌∷◌, ◌++◌, map, Option, Some, None, ⊤}
use Rattle.mb_msg.specs.declared.envelope.Body.{Body}
use Rattle.mb_msg.specs.declared.envelope.Body.TheVariants as body
use Rattle.mb_msg.specs.declared.id.ActorId.{ActorId}
use Rattle.mb_msg.specs.declared.supervision.Cause.TheVariants as cause
use Rattle.mb_msg.specs.declared.system.SysMsg.{SysMsg}
use Rattle.mb_msg.specs.declared.system.SysMsg.TheVariants as system
use Rattle.mb_actor.specs.ActorList.{is_same}
use Rattle.mb_actor.specs.declared.phase.Phase.TheVariants.{Fresh, Live, Ending}
use Rattle.mb_journal.specs.ActorList.{without}
use Rattle.mb_journal.specs.Acts.{Act, report, to_each}
use Rattle.mb_journal.specs.Acts.Act.{Tell, Sys, SuspendSelf, ResumeSelf, CloseSelf}
use Rattle.mb_journal.specs.Effects.{applies}
use Rattle.mb_journal.specs.Entry.{Entry}
use Rattle.mb_journal.specs.Entry.Entry.{Handled, System, Dropped}
use Rattle.mb_journal.specs.Events.{events, is_died_of, watching_says, due_says}
use Rattle.mb_journal.specs.Failure.{is_nobody, is_child}
use Rattle.mb_journal.specs.declared.failed_by.FailedBy.{FailedBy}
use Rattle.mb_journal.specs.Identity.{Identity}
use Rattle.mb_journal.specs.Life.{closed, phase, spawned, is_terminate}
use Rattle.mb_journal.specs.Members.{members_in_order, watcher_of, watched_by}
use Rattle.mb_journal.specs.Newest.{joins, newest, times_in, once_if, watcher_says}
use Rattle.mb_journal.specs.NewestFailure.{newest_where, decides_failure, decided_failure}
use Rattle.mb_journal.specs.Phase.{phase_is}
use Rattle.mb_journal.specs.Remaining.{remaining}
use Rattle.mb_cell.specs.CellView.{CellView}

-- ---- who an actor is, by the newest

-- it watches: the newest Watch or Unwatch of it that was applied is a Watch
abbrev pub is_watcher : List Entry → ActorId → Bool
is_watcher journal x = joins (newest (watcher_says x) journal)

-- it is watched: it is another actor, and the newest among the `watch` of it, the `unwatch`, its Died that was applied and
-- the ending is the `watch`
abbrev pub is_watched : Identity → List Entry → ActorId → Bool
is_watched who journal x = not (is_same who.this x) && joins (newest (watching_says x) (events journal))

-- its end is still to be told: the newest among its Died that was applied while it was watched, the `unwatch` of it, its
-- handled Terminated and the ending is that Died
abbrev pub is_to_be_told : Identity → List Entry → ActorId → Bool
is_to_be_told who journal x = joins (newest (due_says who x) (events journal))

-- those that the entries start, in order, without those whose Died a later entry applies
abbrev pub remaining_children : Identity → List Entry → List ActorId
remaining_children who journal = remaining (spawned who) (λ x. applies (is_died_of x)) [] journal

-- by whom the actor is failed: as the newest entry says that decides it
abbrev pub newest_failure : Identity → List Entry → FailedBy
newest_failure who journal = decided_failure who (newest_where (decides_failure who) journal)

-- ---- to whom acts go

-- the actors that get a system message that passes the test, in order
abbrev pub receivers : (SysMsg → Bool) → List Act → List ActorId
receivers test [] = []
receivers test (Sys to m ∷ rest) = if test m then to ∷ receivers test rest else receivers test rest
receivers test (Tell to b ∷ rest) = receivers test rest
receivers test (SuspendSelf ∷ rest) = receivers test rest
receivers test (ResumeSelf ∷ rest) = receivers test rest
receivers test (CloseSelf ∷ rest) = receivers test rest

-- the message is the Unwatch of this actor
abbrev pub is_unwatch_of : ActorId → SysMsg → Bool
is_unwatch_of x (system.Unwatch y) = is_same x y
is_unwatch_of x _ = false

-- the actors of whose end a Terminated tells, in order
abbrev pub ends_told : List Act → List ActorId
ends_told [] = []
ends_told (Tell to (body.Terminated x) ∷ rest) = x ∷ ends_told rest
ends_told (_ ∷ rest) = ends_told rest

abbrev pub is_parent : Option ActorId → ActorId → Bool
is_parent None x = false
is_parent (Some parent) x = is_same x parent

-- the parent, and then these without it
abbrev pub parent_first : Option ActorId → List ActorId → List ActorId
parent_first None list = list
parent_first (Some parent) list = parent ∷ without list parent

-- ---- system messages

-- if the actor has ended, its parent and its watchers get its Died, each once: the parent first, and the others in order of
-- joining. Else nobody does
pub record TellsItsEnd (new : CellView) : Type 0 where
  pub each_once : (x : ActorId) → times_in (receivers (is_died_of new.who.this) new.acts) x
      ≡ (if closed new.who new.journal then once_if (is_parent new.who.parent x || is_watcher new.journal x) else 0)
  pub in_order : receivers (is_died_of new.who.this) new.acts
      ≡ (if closed new.who new.journal then parent_first new.who.parent (members_in_order watcher_of watcher_says new.journal) else [])

-- the actor begins to end: those that it watched get its Unwatch, each once and in order, and its children a Terminate
pub record BeginsToEnd (old new : CellView) : Type 0 where
  pub each_once : (x : ActorId) → times_in (receivers (is_unwatch_of old.who.this) new.acts) x ≡ once_if (is_watched old.who old.journal x)
  pub in_order : receivers (is_unwatch_of old.who.this) new.acts
      ≡ members_in_order (watched_by old.who.this) watching_says (events old.journal)
  pub stops : receivers is_terminate new.acts ≡ remaining_children old.who old.journal
  pub tells : TellsItsEnd new

-- another actor has ended: this one is told, exactly if that one is watched
pub record HearsOfEnd (old new : CellView) (x : ActorId) : Type 0 where
  pub told : ends_told new.acts ≡ (if is_watched old.who old.journal x then x ∷ [] else [])
  pub tells : TellsItsEnd new

-- the acts of a system message, by what is newest. A Suspend of an actor that was started and does not end suspends its
-- children. A Resume while Live resumes them, and for their failure the child alone by which the actor is failed. A Terminate
-- that is not the second begins the end, and a Died that comes after the start is heard of
abbrev pub ActsByNewest : CellView → CellView → SysMsg → Type 0
ActsByNewest old new system.Suspend =
    phase_is (phase old.who old.journal) Fresh ≡ false → phase_is (phase old.who old.journal) Ending ≡ false →
    new.acts ≡ SuspendSelf ∷ to_each system.Suspend (remaining_children old.who old.journal)
ActsByNewest old new (system.Resume of_failure) =
    phase old.who old.journal ≡ Live →
    new.acts ≡ ResumeSelf ∷ map (λ x. Sys x (system.Resume (of_failure && is_child (newest_failure old.who old.journal) x)))
    (remaining_children old.who old.journal)
ActsByNewest old new system.Terminate = phase_is (phase old.who old.journal) Ending ≡ false → BeginsToEnd old new
ActsByNewest old new (system.Died x) = phase_is (phase old.who old.journal) Fresh ≡ false → HearsOfEnd old new x
ActsByNewest old new _ = ⊤

-- ---- envelopes

-- the newest entry is an envelope that was handled
abbrev pub is_newest_handled : List Entry → Bool
is_newest_handled [] = false
is_newest_handled (Handled envelope reading outcome ∷ before) = true
is_newest_handled (System number m outcome ∷ before) = false
is_newest_handled (Dropped envelope ∷ before) = false

-- what becomes of an envelope, by what is newest. A Terminated is handled exactly if the end that it tells of is still to be
-- told. A Kill suspends the actor and its children and tells its parent, unless it is failed already
abbrev pub EnvelopeByNewest : CellView → CellView → Body → Type 0
EnvelopeByNewest old new (body.Terminated x) = is_newest_handled new.journal ≡ is_to_be_told old.who old.journal x
EnvelopeByNewest old new body.Kill =
    new.acts
    ≡ (if is_nobody (newest_failure old.who old.journal)
    then SuspendSelf ∷ to_each system.Suspend (remaining_children old.who old.journal) ++ report old.who cause.Killed ∷ []
    else [])
EnvelopeByNewest old new _ = ⊤
