use Rattle.std.proofs.Common.{rules}
use Rattle.mb_report.proofs.line.word.Goals as goal

pub returns-in-Ended : goal.returns-in-Ended
returns-in-Ended c = search rules
