use Rattle.std.proofs.Common.{◌≡◌, take}
use Rattle.std.specs.List.{flat_map}
use Rattle.mb_report.specs.declared.report.SenderReport.{SenderReport}
use Rattle.mb_trace_forms.specs.Letters.{refused}
use Rattle.mb_trace_forms.proofs.letters.refused_of.Given as goal

-- the dead letters so far are those of the senders so far
abbrev pub invariant-loop-sender : goal.invariant-loop-sender
invariant-loop-sender l = l.letters.items ≡ flat_map (λ (s : SenderReport). refused l.filter s.dead.items) (take l.sender-index l.senders)
