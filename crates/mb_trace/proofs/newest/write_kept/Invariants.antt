use Rattle.std.proofs.Common.{drop, map, reverse, string_bytes, take}
use Rattle.std.specs.Io.KnownBytes.{Appends}
use Rattle.std.specs.List.{flat_map}
use Rattle.mb_trace.specs.Newest.{entry_text}
use Rattle.mb_trace.proofs.newest.write_kept.Given as goal

-- the lines so far are written
abbrev pub invariant-loop-place : goal.invariant-loop-place
invariant-loop-place g l =
    Appends (g.W.Write.contents l.fn.out) (g.W.Write.contents l.out)
    (flat_map (entry_text (map string_bytes l.names) l.only) (take l.place (drop l.first (reverse l.journal.entries))))
