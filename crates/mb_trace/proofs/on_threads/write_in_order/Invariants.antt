use Rattle.std.proofs.Common.{◌≡◌, ℕ, ◌++◌, List, drop, map, reverse, string_bytes, take}
use Rattle.std.specs.Io.KnownBytes.{Appends}
use Rattle.mb_causal_order.specs.Places.{entries_placed}
use Rattle.mb_trace.specs.Cursors.{left_of}
use Rattle.mb_trace.specs.Steps.{steps_in}
use Rattle.mb_trace.specs.Text.{runs_text, shown, steps_at}
use Rattle.mb_trace.specs.Whole.{order_text}
use Rattle.mb_trace.proofs.on_threads.write_in_order.Given as goal

-- the entries so far are gone past and written, and the lines of those that are left follow
abbrev pub invariant-loop-place : goal.invariant-loop-place
invariant-loop-place g l = record {
  steps : (a : ℕ) → left_of l.steps a ≡ drop (entries_placed a (reverse (take l.place-index l.order))) (steps_in l.trace a);
  so_far : List ℕ;
  written : Appends (g.W.Write.contents l.fn.out) (g.W.Write.contents l.out) so_far;
  whole : order_text l.trace l.filter l.order
      ≡ so_far ++ runs_text (map string_bytes l.trace.names.now) l.above (shown l.filter l.left
      (steps_at (steps_in l.trace) (reverse (take l.place-index l.order)) (drop l.place-index l.order)));
}
