use Rattle.std.proofs.Common.{map, string_bytes, take}
use Rattle.std.specs.Io.KnownBytes.{Appends}
use Rattle.std.specs.List.{flat_map}
use Rattle.mb_report.specs.declared.report.SenderReport.{SenderReport}
use Rattle.mb_trace.specs.Undelivered.{letters_text, readable_letters}
use Rattle.mb_trace.proofs.undelivered.write_all_refused.Given as goal

-- the lines so far are written
abbrev pub invariant-loop-sender : goal.invariant-loop-sender
invariant-loop-sender g l =
    Appends (g.W.Write.contents l.fn.out) (g.W.Write.contents l.out) (flat_map (λ (s : SenderReport). letters_text (map string_bytes l.names) l.filter (readable_letters s)) (take l.sender-index l.senders))
