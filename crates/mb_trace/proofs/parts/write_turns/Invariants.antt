use Rattle.std.proofs.Common.{◌≡◌, ℕ, ◌++◌, List, drop, map, string_bytes, take}
use Rattle.std.specs.Prelude.{codes}
use Rattle.std.specs.Io.KnownBytes.{Appends}
use Rattle.mb_trace.specs.Cursors.{left_of}
use Rattle.mb_trace.specs.Steps.{steps_in}
use Rattle.mb_trace.specs.Text.{entries_in, parts_text, turn_parts}
use Rattle.mb_trace.specs.Whole.{turns_text}
use Rattle.mb_trace.proofs.parts.write_turns.Given as goal

-- the turns so far are gone past and written, and the lines of those that are left follow
abbrev pub invariant-loop-turn : goal.invariant-loop-turn
invariant-loop-turn g l = record {
  steps : (a : ℕ) → left_of l.steps a ≡ drop (entries_in a (take l.turn-index l.turns)) (steps_in l.trace a);
  so_far : List ℕ;
  written : Appends (g.W.Write.contents l.fn.out) (g.W.Write.contents l.out) so_far;
  whole : turns_text l.trace l.filter l.turns
      ≡ so_far ++ parts_text (map string_bytes l.trace.names.now) (codes "turn") l.filter l.left
      (turn_parts (steps_in l.trace) (take l.turn-index l.turns) (drop l.turn-index l.turns));
}
