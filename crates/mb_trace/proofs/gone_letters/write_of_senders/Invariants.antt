use Rattle.std.proofs.Common.{◌≡◌, ℕ, ◌++◌, List, drop, map, string_bytes}
use Rattle.std.specs.Io.KnownBytes.{Appends}
use Rattle.mb_trace.specs.GoneLetters.{all_gone_letters_text}
use Rattle.mb_trace.proofs.gone_letters.write_of_senders.Given as goal

-- the lines so far are written, and those of the senders that are left follow
abbrev pub invariant-loop-sender : goal.invariant-loop-sender
invariant-loop-sender g l = record {
  place : l.place ≡ l.sender-index;
  so_far : List ℕ;
  written : Appends (g.W.Write.contents l.fn.out) (g.W.Write.contents l.out) so_far;
  whole : all_gone_letters_text (map string_bytes l.names) l.actors 0 l.senders
      ≡ so_far ++ all_gone_letters_text (map string_bytes l.names) l.actors l.sender-index (drop l.sender-index l.senders);
}
