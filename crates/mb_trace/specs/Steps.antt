-- A journal's entries, each with how its actor stood before it and after it (this project's own profile: Akka keeps no journal).
use Rattle.std.specs.Prelude.{ℕ, ℤ, ◌-◌, ◌==◌, if◌then◌else◌, List, [], ◌∷◌, length, reverse, slice_get, Option, Some, None}
use Rattle.mb_actor.specs.declared.message.Message.{Message}
use Rattle.mb_causal_order.specs.Places.{journal_of}
use Rattle.mb_journal.specs.Entry.{Entry}
use Rattle.mb_journal.specs.Identity.{Identity}
use Rattle.mb_journal.specs.Incarnation.{messages}
use Rattle.mb_journal.specs.JournalView.{entry_of}
use Rattle.mb_journal.specs.Life.{phase}
use Rattle.mb_journal.specs.Suspension.{count}
use Rattle.mb_script.specs.Script.{Scripted, after_of}
use Rattle.mb_trace.specs.Actors.{who_in}
use Rattle.mb_trace.specs.declared.actor_snapshot.ActorSnapshot.{ActorSnapshot}
use Rattle.mb_trace.specs.declared.step.TraceStep.{TraceStep}
use Rattle.mb_trace.specs.declared.trace.Trace.{Trace}

-- the state of an actor with this script, as it was read, after these messages since its last start or restart; the guardian has neither
abbrev pub state_after : Option Scripted → List Message → Option ℤ
state_after None sent = None
state_after (Some read) sent = Some (after_of read.state read.script.rows sent)

-- how an actor stands after these entries, of which the newest is first
abbrev pub snapshot_after : Identity → Option Scripted → List Entry → ActorSnapshot
snapshot_after who script journal = record {
  phase = phase who journal;
  suspended = count who journal;
  state = state_after script (messages who journal);
}

-- an entry of the journal of the actor of this number: its place, from 0, and how the actor stood before it and after it
pub record Step : Type 0 where
  pub actor : ℕ
  pub index : ℕ
  pub entry : Entry
  pub before : ActorSnapshot
  pub after : ActorSnapshot

-- the step that an entry is behind these entries, of which the newest is first
abbrev pub step_after : ℕ → Identity → Option Scripted → List Entry → Entry → Step
step_after actor who script before e = record {
  actor = actor;
  index = length before;
  entry = e;
  before = snapshot_after who script before;
  after = snapshot_after who script (e ∷ before);
}

-- the steps that these entries are, the earliest first, behind these
abbrev pub steps_from : ℕ → Identity → Option Scripted → List Entry → List Entry → List Step
steps_from actor who script before [] = []
steps_from actor who script before (e ∷ entries) =
    step_after actor who script before e ∷ steps_from actor who script (e ∷ before) entries

-- the steps of a journal, the earliest first
abbrev pub steps_of : ℕ → Identity → Option Scripted → List Entry → List Step
steps_of actor who script journal = steps_from actor who script [] (reverse journal)

-- the script of the actor of this number: the guardian has none, and that of the actor n + 1 is at the place n
abbrev pub script_in : List Scripted → ℕ → Option Scripted
script_in scripts number = if number == 0 then None else slice_get scripts (number - 1)

-- the steps of the actor of this number in the run of a trace
abbrev pub steps_in : Trace → ℕ → List Step
steps_in trace actor =
    steps_of actor (who_in trace.plan.now actor) (script_in trace.scripts.now actor) (journal_of trace.report.now.actors.items actor)

-- what a step of the code is
abbrev pub step_data : TraceStep → Step
step_data s = record { actor = s.actor.0; index = s.index; entry = entry_of s.entry; before = s.before; after = s.after }
