-- How far a journal was gone through.
use Rattle.std.specs.Prelude.{ℕ, ◌+◌, ◌*◌, ◌<◌, ◌≤◌, ◌≡◌, List, [], ◌∷◌, drop, length, slice_index_or, Option}
use Rattle.mb_causal_order.specs.Places.{earliest, journal_of}
use Rattle.mb_msg.specs.declared.id.ActorId.{ActorId}
use Rattle.mb_journal.specs.Entry.{Entry}
use Rattle.mb_journal.specs.Identity.{Identity}
use Rattle.mb_script.specs.Script.{Scripted}
use Rattle.mb_trace.specs.Actors.{children_in, who_in}
use Rattle.mb_trace.specs.Lives.{Follows}
use Rattle.mb_trace.specs.Steps.{Step, script_in, steps_in}
use Rattle.mb_trace.specs.declared.cursor.JournalCursor.{JournalCursor}
use Rattle.mb_trace.specs.declared.trace.Trace.{Trace}

-- this journal of an actor was gone through up to the cursor's place, and its life is that of the entries before
pub record IsAt (who : Identity) (script : Option Scripted) (journal : List Entry) (cursor : JournalCursor) : Type 0 where
  pub within : cursor.next ≤ length journal
  pub follows : Follows who script (earliest cursor.next journal) cursor.life
  pub few : cursor.life.suspended ≤ 1 + 3 * cursor.next

-- the cursors are at places of the journals of this trace, one for each actor, and these are the children that the guardian starts
pub record AreAt (trace : Trace) (prepared : List ActorId) (cursors : List JournalCursor) : Type 0 where
  pub prepared_are : prepared ≡ children_in trace.plan.now 0
  pub as_many : length cursors ≡ length trace.report.now.actors.items
  pub each : (a : ℕ) (c : JournalCursor) → a < length cursors
      → IsAt (who_in trace.plan.now a) (script_in trace.scripts.now a) (journal_of trace.report.now.actors.items a) (slice_index_or cursors a c)

-- the steps from these cursors on, of the actors numbered on from this one
abbrev pub left_from : Trace → ℕ → List JournalCursor → List (List Step)
left_from trace a [] = []
left_from trace a (c ∷ cursors) = drop c.next (steps_in trace a) ∷ left_from trace (a + 1) cursors

-- the steps of the actor of this number that are left, where these are left of each; none for a number that no actor has
abbrev pub left_of : List (List Step) → ℕ → List Step
left_of left a = slice_index_or left a []
