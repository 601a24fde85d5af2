use Rattle.std.proofs.Common.{◌≡◌, ℕ, ◌<◌, get_or, length}
use Rattle.mb_causal_order.specs.Places.{journal_of}
use Rattle.mb_trace.specs.Actors.{who_in}
use Rattle.mb_trace.specs.Cursors.{IsAt}
use Rattle.mb_trace.specs.Steps.{script_in}
use Rattle.mb_trace.specs.declared.cursor.JournalCursor.{JournalCursor}
use Rattle.mb_trace.proofs.steps.TraceSteps.new.Given as goal

-- the cursors so far are at the beginnings of their journals
abbrev pub invariant-loop-number : goal.invariant-loop-number
invariant-loop-number l = record {
  as_many : length l.cursors.items ≡ l.number;
  each : (a : ℕ) (c : JournalCursor) → a < l.number
      → IsAt (who_in l.trace.plan.now a) (script_in l.trace.scripts.now a) (journal_of l.trace.report.now.actors.items a) (get_or l.cursors.items a c);
  begun : (a : ℕ) (c : JournalCursor) → a < l.number → (get_or l.cursors.items a c).next ≡ 0;
}
