use Rattle.std.proofs.Common.{take}
use Rattle.std.specs.Fmt.{HasWritten, IsPlainFormatter}
use Rattle.std.specs.List.{flat_map}
use Rattle.mb_report.specs.Lines.{line_text}
use Rattle.mb_report.specs.Kept.{kept}
use Rattle.mb_report.proofs.lines.LinesDisplay.fmt.Given as goal

-- the lines so far are written
abbrev pub invariant-loop-line : goal.invariant-loop-line
invariant-loop-line g l =
    IsPlainFormatter l.initial.f → HasWritten g.W.Write.write_str_gives l.initial.f (flat_map (λ line. line_text (kept line))
    (take l.line-index l.line-items)) l.f
