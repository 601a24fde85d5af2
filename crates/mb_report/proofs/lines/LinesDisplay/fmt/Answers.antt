use Rattle.std.proofs.Common.{rules}
use Rattle.std.proofs.Output.{has_written_append, has_written_of_eq}
use Rattle.mb_report.proofs.Written.{lines_so_far, lines_all}
use Rattle.mb_report.proofs.lines.LinesDisplay.fmt.Goals as goal

pub loop-line-preserved : goal.loop-line-preserved
loop-line-preserved g c = λ plain.
    has_written_of_eq _ _ _ _ _ (lines_so_far _ c.loop-line.line-index c.line-item.result c.loop-line-test.true c.line-item.is)
    (has_written_append _ _ _ _ _ _ (c.loop-line.invariant plain) (search rules))

pub returns-clause-writes : goal.returns-clause-writes
returns-clause-writes g c = λ plain ok.
    has_written_of_eq _ _ _ _ _
    (lines_all _ c.args.self.now.lines.items c.loop-line.line-index c.deref-line-items.ensures.value c.loop-line-test.false)
    (has_written_append _ _ _ _ _ _ (c.loop-line.invariant plain) (search rules))
