-- What is left of the actors of a whole run that gave no report (this project's own profile: Akka shows nothing of such a run).
use Rattle.std.specs.Prelude.{◌≡◌, ◌⊎◌, ℕ, ◌<◌, ◌≤◌, nat_le, Bool, true, false, List, [], Contains, Option, Some, None, length, slice_get}
use Rattle.std.specs.Global.{Box}
use Rattle.std.specs.List.{AllZip, list_any, position_from}
use Rattle.mb_actor.specs.Behaviour.{Moment, Reply}
use Rattle.mb_build.specs.Planned.{IsDirectoryOf, actors_in}
use Rattle.mb_gate.specs.Accessors.{actors_of, first_home, pass_view}
use Rattle.mb_gate.specs.Rule.{IsAmong}
use Rattle.mb_gate.specs.Untouched.{origin_of}
use Rattle.mb_gate.specs.View.{Saw, View}
use Rattle.mb_gate.specs.declared.gates.Gates.{Gates}
use Rattle.mb_home.specs.Contents.{Contents}
use Rattle.mb_journal.specs.Aside.{aside}
use Rattle.mb_journal.specs.Entry.{Entry}
use Rattle.mb_journal.specs.Identity.{Identity}
use Rattle.mb_journal.specs.Lawful.{IsLawful}
use Rattle.mb_journal.specs.Life.{phase}
use Rattle.mb_journal.specs.Suspension.{count}
use Rattle.mb_msg.specs.declared.id.ActorId.{ActorId}
use Rattle.mb_msg.specs.declared.plan.Plan.{Plan}
use Rattle.mb_pool.specs.WorkerPorts.{WorkerPortView}
use Rattle.mb_shutdown.specs.Unfinished.{AreUnfinished, ShowsHomes}
use Rattle.mb_shutdown.specs.declared.ending.FinishError.{FinishError}
use Rattle.mb_shutdown.specs.declared.ending.FinishError.TheVariants as handle
use Rattle.mb_shutdown.specs.declared.mismatch.Mismatch.{Mismatch as What}
use Rattle.mb_shutdown.specs.declared.mismatch.Mismatch.TheVariants as what
use Rattle.mb_shutdown.specs.declared.unfinished.UnfinishedActor.{UnfinishedActor}
use Rattle.mb_system.specs.Members.{AreHandlesOf}
use Rattle.mb_system.specs.declared.built.Built.{Built}
use Rattle.mb_system.specs.declared.handle.WorkerHandle.{WorkerHandle}
use Rattle.mb_system.specs.declared.failure.RunError.{RunError}
use Rattle.mb_system.specs.declared.failure.RunError.TheVariants as Fault
use Rattle.heddleorange.specs.LastRun.{KnowTogether, OnlyRunsToLast}
use Rattle.heddleorange.specs.Workers.{AreNewViews}
use Rattle.heddleorange.specs.declared.error.Error.{Error}
use Rattle.heddleorange.specs.declared.error.Error.TheVariants.{JournalFull, Mismatch, NoMemory, NoMemoryInRun}
use Rattle.heddleorange.specs.declared.failed_run.FailedRun.{FailedRun}

-- What is left of an actor is what its journal says of it, and the journal is one that it can have, and keeps its entries where the plan says so.
pub record IsLeftOf (gives : Moment → Reply → Type 0) (who : Identity) (a : UnfinishedActor) : Type 0 where
  pub phase_is : a.phase ≡ phase who a.journal.entries
  pub count_is : a.count ≡ count who a.journal.entries
  pub aside_is : a.aside.items ≡ aside who a.journal.entries
  pub lawful : IsLawful who gives a.journal.entries
  pub kept_is : a.journal.retention ≡ who.retention

-- This is left of the actors of a run of the plan, the guardian first: what the gates of its system gave back of each, whose journals go on from all
-- that was seen. What was known then is what the handles of all workers knew, once they had given back the claims that they found. Since they were new,
-- each of them only made runs of mailboxes of these gates, by the plan's throughput. What is shown of an actor is left of the one that the plan has at
-- its number.
pub record AreRemains (gives : ℕ → Moment → Reply → Type 0) (plan : Plan) (shown : List (Option UnfinishedActor)) : Type 0 where
  pub gates : Gates (Box Contents)
  pub planned : IsDirectoryOf plan (first_home gates).value.directory
  pub view : View
  pub homes : ShowsHomes gives (first_home gates).value (actors_of gates) view shown
  pub began : List View
  pub began_new : AreNewViews began
  pub handles : List View
  pub all_handles : length handles ≡ plan.workers
  pub ports : List (WorkerPortView (Box Contents))
  pub together : KnowTogether gives ports handles view
  pub runs : AllZip (OnlyRunsToLast gives (origin_of gates) plan.throughput) began handles
  pub same_count : length shown ≡ length (actors_in plan)
  pub each : (id : ℕ) (who : Identity) (a : UnfinishedActor) → slice_get (actors_in plan) id ≡ Some who → slice_get shown id ≡ Some (Some a)
      → IsLeftOf (gives id) who a

-- The journal of this actor is shown, and has at least so many entries.
abbrev pub is_full : ℕ → Option UnfinishedActor → Bool
is_full limit None = false
is_full limit (Some a) = nat_le limit (length a.journal.entries)

-- The first of these journals that has at least so many entries is that of the actor of this number.
abbrev pub IsFirstFull : ℕ → List (Option UnfinishedActor) → ActorId → Type 0
IsFirstFull limit shown id = position_from (is_full limit) 0 shown ≡ Some id.0

-- One of these journals has at least so many entries.
abbrev pub ShowFull : ℕ → List (Option UnfinishedActor) → Type 0
ShowFull limit shown = list_any (is_full limit) shown ≡ true

-- Nothing is shown of one of these actors.
abbrev pub LackOne : List (Option UnfinishedActor) → Type 0
LackOne shown = (id : ℕ) × (slice_get shown id ≡ Some None)

-- The actor is named of which nothing is shown.
abbrev pub IsLackOf : List (Option UnfinishedActor) → What → Type 0
IsLackOf shown (what.Held whom) = slice_get shown whom.0 ≡ Some None
IsLackOf shown (what.List whom) = ⊥
IsLackOf shown (what.Waiting whom) = ⊥

-- A run that was broken off for this reason is told so by what is left. Of the full journals that are shown the first is named; where none is shown, an
-- actor is named of which nothing is. No order that can go to nobody is sent.
abbrev pub IsToldAs : RunError → ℕ → List (Option UnfinishedActor) → Error → Type 0
IsToldAs Fault.JournalFull limit shown error =
    ((id : ActorId) × (error ≡ JournalFull id) × IsFirstFull limit shown id) ⊎ ((id : What) × (error ≡ Mismatch id) × IsLackOf shown id)
IsToldAs Fault.NoMemory limit shown error = error ≡ NoMemoryInRun
IsToldAs Fault.NoSuchActor limit shown error = ⊥

-- Nothing is shown, since memory was refused.
abbrev pub IsWithoutMemory : {X : Type 0} → FailedRun X → Type 0
IsWithoutMemory failed = (failed.error ≡ NoMemory) × (failed.actors.items ≡ [])

module _ {A K : Type 0} where
  -- One of these handles saw a journal of at least so many entries, of one of so many actors.
  pub record SawFull (actors limit : ℕ) (handles : List (WorkerHandle A K)) : Type 0 where
    pub handle : WorkerHandle A K
    pub present : Contains handles handle
    pub actor : ℕ
    pub within : actor < actors
    pub journal : List Entry
    pub seen : IsAmong (Saw actor journal) (pass_view handle.registrar.pass).log
    pub full : limit ≤ length journal

  -- The run of this system was broken off for this reason, with this limit of its journals; what is left of its actors is shown, unless memory was
  -- refused.
  abbrev pub IsBrokenOff : (ℕ → Moment → Reply → Type 0) → Built A K → RunError → ℕ → FailedRun A → Type 0
  IsBrokenOff gives built fault limit failed = (AreUnfinished gives built failed.actors.items × IsToldAs fault limit failed.actors.items failed.error)
      ⊎ IsWithoutMemory failed

  -- The system has no report for this reason; what is left of its actors is shown, unless memory was refused.
  abbrev pub IsLeftFor : (ℕ → Moment → Reply → Type 0) → Built A K → Error → FailedRun A → Type 0
  IsLeftFor gives built error failed = ((failed.error ≡ error) × AreUnfinished gives built failed.actors.items) ⊎ IsWithoutMemory failed

  -- All handles of the system are its own, and there is one.
  abbrev pub HasOwnHandles : Built A K → Type 0
  HasOwnHandles built = AreHandlesOf built.system.gates built.handles.items × (0 < length built.handles.items)

  -- A system that comes back with all its handles and senders has its own handles.
  abbrev pub BringsOwnHandles : FinishError A K → Type 0
  BringsOwnHandles (handle.MissingHandle number back) = Unit {0}
  BringsOwnHandles (handle.MissingSender number back) = Unit {0}
  BringsOwnHandles (handle.NotQuiet id back) = HasOwnHandles back
  BringsOwnHandles (handle.NoMemory back) = HasOwnHandles back
  BringsOwnHandles (handle.Mismatch what) = Unit {0}

  -- The failure of a whole run for this reason of a system that did not end. A system to which all handles and senders come back has none that speaks of a
  -- missing one. There is none for the reason that an actor has something to run: the run goes on then.
  abbrev pub IsFailureFor : (ℕ → Moment → Reply → Type 0) → FinishError A K → FailedRun A → Type 0
  IsFailureFor gives (handle.MissingHandle number back) failed = ⊥
  IsFailureFor gives (handle.MissingSender number back) failed = ⊥
  IsFailureFor gives (handle.NotQuiet id back) failed = ⊥
  IsFailureFor gives (handle.NoMemory back) failed = IsLeftFor gives back NoMemory failed
  IsFailureFor gives (handle.Mismatch what) failed = (failed.error ≡ Mismatch what) × (failed.actors.items ≡ [])
