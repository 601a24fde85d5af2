use Rattle.std.proofs.Common.{rules}
use Rattle.mb_report.proofs.collect.line_of.Goals as goal

pub returns-clause-line : goal.returns-clause-line
returns-clause-line c = search rules
