use Rattle.std.proofs.Common.{◌≡◌, ℕ, ◌++◌, ◌≤◌, List, drop, map, string_bytes}
use Rattle.std.specs.Prelude.{codes}
use Rattle.std.specs.Io.KnownBytes.{Appends}
use Rattle.mb_trace.specs.Cursors.{left_of}
use Rattle.mb_trace.specs.Steps.{steps_in}
use Rattle.mb_trace.specs.Text.{journal_parts, parts_text}
use Rattle.mb_trace.proofs.parts.write_journals.Given as goal

-- the journals so far are gone past and written, and the lines of those that are left follow
abbrev pub invariant-loop-actor : goal.invariant-loop-actor
invariant-loop-actor g l = record {
  number : l.number ≡ l.actor-index;
  steps : (a : ℕ) → l.actor-index ≤ a → left_of l.steps a ≡ steps_in l.trace a;
  so_far : List ℕ;
  written : Appends (g.W.Write.contents l.fn.out) (g.W.Write.contents l.out) so_far;
  whole : parts_text (map string_bytes l.trace.names.now) (codes "actor") l.filter l.filter.limit (journal_parts (steps_in l.trace) 0 l.actors)
      ≡ so_far ++ parts_text (map string_bytes l.trace.names.now) (codes "actor") l.filter l.left
      (journal_parts (steps_in l.trace) l.actor-index (drop l.actor-index l.actors));
}
