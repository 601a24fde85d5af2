use Rattle.std.proofs.Common.{◌≡◌, ℕ, ◌++◌, List, drop, map, string_bytes}
use Rattle.std.specs.Io.KnownBytes.{Appends}
use Rattle.mb_trace.specs.Undelivered.{all_aside_text}
use Rattle.mb_trace.proofs.undelivered.write_all_aside.Given as goal

-- the lines so far are written, and those of the actors that are left follow
abbrev pub invariant-loop-actor : goal.invariant-loop-actor
invariant-loop-actor g l = record {
  number : l.number ≡ l.actor-index;
  so_far : List ℕ;
  written : Appends (g.W.Write.contents l.fn.out) (g.W.Write.contents l.out) so_far;
  whole : all_aside_text (map string_bytes l.names) l.filter 0 l.actors
      ≡ so_far ++ all_aside_text (map string_bytes l.names) l.filter l.actor-index (drop l.actor-index l.actors);
}
