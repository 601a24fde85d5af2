-- Why a run is broken off.
use Rattle.std.specs.Prelude.{◌≡◌, ◌⊎◌, ℕ, ◌<◌, ◌≤◌, false, true, List, Contains, Some, length}
use Rattle.std.specs.Global.{Box}
use Rattle.std.specs.List.{AllZip}
use Rattle.mb_actor.specs.Behaviour.{Moment, Reply}
use Rattle.mb_msg.specs.declared.id.ActorId.{ActorId}
use Rattle.mb_journal.specs.Entry.{Entry}
use Rattle.mb_journal.specs.Run.Stopped.{NoRoom}
use Rattle.mb_gate.specs.Accessors.{actors_of, pass_view}
use Rattle.mb_gate.specs.Untouched.{origin_of}
use Rattle.mb_gate.specs.View.{View}
use Rattle.mb_gate.specs.declared.claim.Claim.{Claim}
use Rattle.mb_gate.specs.declared.gates.Gates.{Gates}
use Rattle.mb_home.specs.Contents.{Contents}
use Rattle.mb_home.specs.Fresh.{IsFreshClaim}
use Rattle.mb_msg.specs.declared.order.Order.{Order}
use Rattle.mb_msg.specs.declared.order.OrderKind.{OrderKind}
use Rattle.mb_msg.specs.declared.order.OrderKind.TheVariants.{Stop, Tell}
use Rattle.mb_register.specs.ActorSet.{has_actor}
use Rattle.mb_mailbox.specs.Ran.{IsShortOfMemory, LeavesRun}
use Rattle.mb_mailbox.specs.declared.turn.Turn.{Turn}
use Rattle.mb_system.specs.declared.handle.WorkerHandle.{WorkerHandle}
use Rattle.mb_system.specs.declared.failure.RunError.{RunError}
use Rattle.mb_system.specs.declared.failure.RunError.TheVariants.{JournalFull, NoMemory, NoSuchActor}
use Rattle.mb_system.specs.Members.{OutsideSender}
use Rattle.mb_dispatch.specs.Found.{FoundPoolEmpty}
use Rattle.mb_dispatch.specs.Jobs.{IsDone}
use Rattle.mb_dispatch.specs.Orders.{HasSent, StopsWithin}
use Rattle.mb_dispatch.specs.Parallel.{FirstZip}
use Rattle.mb_dispatch.specs.Runs.{OnlyRuns}
use Rattle.mb_dispatch.specs.declared.job.Job.{Job}
use Rattle.mb_system.specs.declared.system.System.{System}

-- This can go to no actor: an envelope goes to an actor from number 1 on, a Terminate also to the guardian.
abbrev pub IsToNobody : Gates (Box Contents) → ActorId → OrderKind → Type 0
IsToNobody gates to (Tell payload) = (to.0 ≡ 0) ⊎ (actors_of gates ≤ to.0)
IsToNobody gates to Stop = actors_of gates ≤ to.0

-- This can go to an actor.
abbrev pub IsToSomebody : Gates (Box Contents) → ActorId → OrderKind → Type 0
IsToSomebody gates to (Tell payload) = (0 < to.0) × (to.0 < actors_of gates)
IsToSomebody gates to Stop = to.0 < actors_of gates

-- Sending this was refused for this reason: `NoSuchActor` only if it can go to no actor, and `NoMemory` only if it can go to one.
abbrev pub IsRefusedFor : Gates (Box Contents) → ActorId → OrderKind → RunError → Type 0
IsRefusedFor gates to what NoMemory = IsToSomebody gates to what
IsRefusedFor gates to what JournalFull = ⊥
IsRefusedFor gates to what NoSuchActor = IsToNobody gates to what

-- Sending these orders is broken off for this reason: `NoSuchActor` only if one of them can go to no actor.
abbrev pub BreaksSending : Gates (Box Contents) → List Order → RunError → Type 0
BreaksSending gates orders NoMemory = Unit {0}
BreaksSending gates orders JournalFull = ⊥
BreaksSending gates orders NoSuchActor = (order : Order) × Contains orders order × (0 < order.times) × IsToNobody gates order.to order.what

-- The sender stopped at one of these orders, which was refused for this reason.
abbrev pub StopsFor : Gates (Box Contents) → List Order → OutsideSender → OutsideSender → RunError → Type 0
StopsFor gates orders old new fault = (stops : StopsWithin orders old new) × IsRefusedFor gates stops.next.to stops.next.what fault

-- The sender carried out all of these orders, and owes an actor a look still: the pool refused its claim again.
abbrev pub HasSentAndOwes : List Order → OutsideSender → OutsideSender → Type 0
HasSentAndOwes orders old new = HasSent orders old new × (id : ℕ) × (has_actor new.registrar.owed id ≡ true)

-- A job of these orders is broken off for this reason: that of the order that was refused, at which its sender stopped; or `NoMemory`, where the
-- sender carried out all of them, and owes an actor a look still.
abbrev pub BreaksJob : Gates (Box Contents) → List Order → OutsideSender → OutsideSender → RunError → Type 0
BreaksJob gates orders old new fault = StopsFor gates orders old new fault ⊎ ((fault ≡ NoMemory) × HasSentAndOwes orders old new)

module _ {A K : Type 0} (gives : ℕ → Moment → Reply → Type 0) (system : System A K) where
  -- A run of a mailbox by this handle had no room, since the actor's journal had come to its limit.
  pub record CameToLimit (handle : WorkerHandle A K) : Type 0 where
    pub claim : Claim (Box Contents)
    pub fresh : IsFreshClaim gives (Some (origin_of system.gates)) claim
    pub before : View
    pub journal : List Entry
    pub turn : Turn
    pub left : LeavesRun system.throughput claim before (pass_view handle.registrar.pass) journal turn NoRoom
    pub full : claim.home.value.cell.who.limit ≤ length journal

  -- A run of a mailbox by this handle had no room, though its actor's journal had not come to its limit, or since the actor ended: then memory was
  -- asked for.
  pub record CameShort (handle : WorkerHandle A K) : Type 0 where
    pub claim : Claim (Box Contents)
    pub fresh : IsFreshClaim gives (Some (origin_of system.gates)) claim
    pub before : View
    pub journal : List Entry
    pub turn : Turn
    pub left : LeavesRun system.throughput claim before (pass_view handle.registrar.pass) journal turn NoRoom
    pub short : IsShortOfMemory claim.home.value.cell.who journal

  -- The handle owes an actor a look: the pool refused its claim.
  abbrev pub OwesLook : WorkerHandle A K → Type 0
  OwesLook handle = (id : ℕ) × (has_actor handle.registrar.owed id ≡ true)

  -- From the first view to the second the handle only made runs, of mailboxes of claims of this system by its throughput.
  abbrev pub OnlyRunsBySystem : View → View → Type 0
  OnlyRunsBySystem = OnlyRuns gives (origin_of system.gates) system.throughput

  -- The handle only made runs from this view on, and is broken off for this reason: `JournalFull` only if a journal came to its limit in the last run;
  -- `NoMemory` only if the last run was short of memory, or the pool refused the claim of an actor to which a look is owed since.
  abbrev pub BreaksWork : View → WorkerHandle A K → RunError → Type 0
  BreaksWork start handle NoMemory = ((last : CameShort handle) × OnlyRunsBySystem start last.before)
      ⊎ (OwesLook handle × OnlyRunsBySystem start (pass_view handle.registrar.pass))
  BreaksWork start handle JournalFull = (last : CameToLimit handle) × OnlyRunsBySystem start last.before
  BreaksWork start handle NoSuchActor = ⊥

  -- A quiet run is broken off for this reason: as any work of a handle, or memory was refused for one more answer.
  abbrev pub BreaksQuietRun : View → WorkerHandle A K → RunError → Type 0
  BreaksQuietRun start handle error = ((error ≡ NoMemory) × OnlyRunsBySystem start (pass_view handle.registrar.pass)) ⊎ BreaksWork start handle error

  -- The handle only made runs from this view on, up to its end, or until it was broken off.
  abbrev pub RunsOrBreaks : View → WorkerHandle A K → Type 0
  RunsOrBreaks start handle = OnlyRunsBySystem start (pass_view handle.registrar.pass) ⊎ ((error : RunError) × BreaksWork start handle error)

  -- The handle has worked to its end from this view on: it only made runs, owes nobody a look, and found the pool empty last.
  abbrev pub HasWorked : View → WorkerHandle A K → Type 0
  HasWorked start handle = ((id : ℕ) → id < actors_of system.gates → has_actor handle.registrar.owed id ≡ false) × FoundPoolEmpty gives handle
      × OnlyRunsBySystem start (pass_view handle.registrar.pass)

  -- A run by these handles with these jobs, each given before and after it, is broken off for this reason: that of the first handle that was broken off,
  -- or, if all have worked to their end, that of the first job that was.
  abbrev pub BreaksRun : List (WorkerHandle A K) → List (WorkerHandle A K) → List (Job A K) → List (Job A K) → RunError → Type 0
  BreaksRun old new before after error =
      FirstZip (λ o n. HasWorked (pass_view o.registrar.pass) n) (λ o n. BreaksWork (pass_view o.registrar.pass) n error) old new
      ⊎ (AllZip (λ o n. HasWorked (pass_view o.registrar.pass) n) old new
      × FirstZip (IsDone system.gates) (λ o n. BreaksJob system.gates o.sends.items o.sender n.sender error) before after)
