-- Why a system that ends has no report.
use Rattle.std.specs.Prelude.{◌≡◌, ℕ, ◌<◌, List, Some, length, slice_get}
use Rattle.mb_ghost.specs.Shares.{IsWhole}
use Rattle.mb_ghost.specs.Summed.{total}
use Rattle.mb_journal.specs.Entry.{Entry}
use Rattle.mb_journal.specs.Identity.{Identity}
use Rattle.mb_msg.specs.declared.system.SysMsg.{SysMsg}
use Rattle.mb_gate.specs.PutIn.{IsAllPut, put_by}
use Rattle.mb_gate.specs.Releases.{ReleasesAddUp, back_by, taken_by}
use Rattle.mb_system.specs.Shares.{shares_of, views_of}
use Rattle.mb_actor.specs.Behaviour.{Moment, Reply}
use Rattle.mb_gate.specs.Accessors.{actors_of, first_home}
use Rattle.mb_gate.specs.Rule.{IsAmong}
use Rattle.mb_gate.specs.View.{Counted, Observation, View}
use Rattle.mb_home.specs.Directory.{DirectoryEntry}
use Rattle.mb_queue.specs.Passes.{SendPassView}
use Rattle.mb_report.specs.declared.report.ActorReport.{ActorReport}
use Rattle.mb_report.specs.declared.report.Report.{Report}
use Rattle.mb_shutdown.specs.CompleteReport.{CountsSystems}
use Rattle.mb_shutdown.specs.Homes.{HomesReturned, Disagrees}
use Rattle.mb_shutdown.specs.Mismatched.{of_whom}
use Rattle.mb_shutdown.specs.Rooms.{AreCounted, HasOnlyCounted}
use Rattle.mb_shutdown.specs.declared.mismatch.Mismatch.{Mismatch as What}
use Rattle.mb_shutdown.specs.Idle.{WereReadIdle, WasReadBusy}
use Rattle.mb_system.specs.Belonging.{senders_numbers}
use Rattle.mb_system.specs.Members.{handle_numbers}
use Rattle.mb_system.specs.declared.built.Built.{Built}
use Rattle.mb_shutdown.specs.Belonging.{AreThere, AreSendPasses, HasAllSeen, HasRead, AllFoundIdle, IsLeastMissing, directory_of}
use Rattle.mb_shutdown.specs.declared.ending.FinishError.{FinishError}
use Rattle.mb_shutdown.specs.declared.ending.FinishError.TheVariants.{MissingHandle, MissingSender, NotQuiet, NoMemory, Mismatch}

-- By what was read, this actor is the least that has something to run.
abbrev pub FindsBusy : ℕ → View → View → Type 0
FindsBusy id before after = (between : View) × WereReadIdle 0 id before between × WasReadBusy id between after

-- By what was read, so many actors have nothing to run. After that only waiting counts were read.
abbrev pub FindsIdle : ℕ → View → View → Type 0
FindsIdle many before after = (between : View) × WereReadIdle 0 many before between × HasOnlyCounted between after

-- As many envelopes are left for each actor as were read as waiting for it.
abbrev pub LeavesCounted : List Observation → Report → Type 0
LeavesCounted log report = (id : ℕ) (a : ActorReport) → slice_get report.actors.items id ≡ Some a → IsAmong (Counted id (length a.left.items)) log

module _ {A K : Type 0} where
  -- All handles and senders are there.
  abbrev pub IsComplete : Built A K → Type 0
  IsComplete built = AreThere built.system.workers (handle_numbers built.handles.items) × AreThere built.system.senders (senders_numbers
      built.senders.items)

  -- The least handle that is missing; or the least sender, where all handles are there; or the least actor that had something to run, where all are there;
  -- or, where none had, memory was refused or something does not agree. All comes back but in the last case.
  abbrev pub IsRefusal : Built A K → FinishError A K → Type 0
  IsRefusal built (MissingHandle number back) = IsLeastMissing built.system.workers (handle_numbers built.handles.items) number × (back ≡ built)
  IsRefusal built (MissingSender number back) = AreThere built.system.workers (handle_numbers built.handles.items)
      × IsLeastMissing built.system.senders (senders_numbers built.senders.items) number × (back ≡ built)
  IsRefusal built (NotQuiet id back) = IsComplete built × (id.0 < actors_of built.system.gates) × HasRead (FindsBusy id.0) built back
  IsRefusal built (NoMemory back) = IsComplete built × HasRead (FindsIdle (actors_of built.system.gates)) built back
  IsRefusal built (Mismatch what) = IsComplete built × AllFoundIdle built × (of_whom what < actors_of built.system.gates)

  -- Nothing is missing, and an actor that is named is one of so many.
  abbrev pub IsOfWhole : ℕ → FinishError A K → Type 0
  IsOfWhole actors (MissingHandle number back) = ⊥
  IsOfWhole actors (MissingSender number back) = ⊥
  IsOfWhole actors (NotQuiet id back) = id.0 < actors
  IsOfWhole actors (NoMemory back) = Unit {0}
  IsOfWhole actors (Mismatch what) = of_whom what < actors

  -- All that the system's handles and senders know is known to this view: what each saw, put into lists, and gave back. It has the shares of all of them.
  pub record IsOfAll (built : Built A K) (view : View) : Type 0 where
    pub seen : HasAllSeen built view.log
    pub share : IsWhole (shares_of built) → IsWhole view.share
    pub put : (actor : ℕ) (measure : ℕ × SysMsg → ℕ) → put_by actor measure view ≡ total (put_by actor measure) (views_of built)
    pub taken : (actor : ℕ) (measure : List Entry → ℕ) → taken_by actor measure view ≡ total (taken_by actor measure) (views_of built)
    pub back : (actor : ℕ) (measure : List Entry → ℕ) → back_by actor measure view ≡ total (back_by actor measure) (views_of built)

  -- Where there are no passes but those of the system's handles and senders, the journal of each actor is what came of an empty one in their releases.
  abbrev pub ReleasesAddUpTo : Built A K → Report → Type 0
  ReleasesAddUpTo built report = IsWhole (shares_of built) → (id : ℕ) (a : ActorReport) → slice_get report.actors.items id ≡ Some a
      → ReleasesAddUp id a.journal.entries (views_of built)

  -- The report counts each system message once that the system's handles and senders put into the actor's list.
  pub record CountsAllPut (built : Built A K) (who : Identity) (a : ActorReport) : Type 0 where
    pub log : List Observation
    pub seen : HasAllSeen built log
    pub counts : CountsSystems log who a
    pub put : IsAllPut who.this.0 counts.pushed (views_of built)

  -- Where there are no passes but those of the system's handles and senders, the report does so for each actor.
  abbrev pub PutAddsUpTo : Built A K → Report → Type 0
  PutAddsUpTo built report = IsWhole (shares_of built) → (id : ℕ) (e : DirectoryEntry) (a : ActorReport) → slice_get (directory_of built) id ≡ Some e
      → slice_get report.actors.items id ≡ Some a → CountsAllPut built e.who a

  -- This does not agree, by what the gates gave back, by the senders' passes and by the counts that were read; all that handles and senders knew was
  -- known then.
  pub record DisagreesAtEnd (gives : ℕ → Moment → Reply → Type 0) (built : Built A K) (what : What) : Type 0 where
    pub view : View
    pub of_all : IsOfAll built view
    pub outside : List (List SendPassView)
    pub send_passes : AreSendPasses built.system.senders built.senders.items outside
    pub waiting : List ℕ
    pub counted : AreCounted view.log waiting
    pub disagrees : Disagrees gives (first_home built.system.gates).value (actors_of built.system.gates) view outside waiting what

  -- If the error names something that does not agree, this is so by what was found at the end.
  abbrev pub DisagreesIfSaid : (ℕ → Moment → Reply → Type 0) → Built A K → FinishError A K → Type 0
  DisagreesIfSaid gives built (Mismatch what) = DisagreesAtEnd gives built what
  DisagreesIfSaid gives built (MissingHandle number back) = Unit {0}
  DisagreesIfSaid gives built (MissingSender number back) = Unit {0}
  DisagreesIfSaid gives built (NotQuiet id back) = Unit {0}
  DisagreesIfSaid gives built (NoMemory back) = Unit {0}

  -- Each home came back. The report shows the homes' journals, counts all that each list gave, shows as cleaned up and as dead letters what the homes
  -- have, and leaves as many envelopes as were read as waiting. All that handles and senders knew was known then.
  pub record HasHomesReturned (gives : ℕ → Moment → Reply → Type 0) (built : Built A K) (report : Report) : Type 0 where
    pub view : View
    pub of_all : IsOfAll built view
    pub home : HomesReturned gives (first_home built.system.gates).value (actors_of built.system.gates) view report
    pub counted : LeavesCounted view.log report
