use Rattle.std.proofs.Common.{rules}
use Rattle.mb_supervision.proofs.fail.report_failure.Goals as goal

pub returns-in-None : goal.returns-in-None
returns-in-None c = search rules
