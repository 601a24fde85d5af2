use Rattle.std.proofs.Common.{◌≡◌, true, take}
use Rattle.std.specs.Prelude.{All}
use Rattle.mb_report.specs.declared.report.SenderReport.{SenderReport}
use Rattle.mb_trace.proofs.kept.keep_letters.Given as goal

-- the senders so far keep their dead letters
abbrev pub invariant-loop-sender : goal.invariant-loop-sender
invariant-loop-sender l = All (λ (s : SenderReport). s.dead.retention.keeps_all ≡ true) (take l.sender-index l.senders)
