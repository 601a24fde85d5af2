use Rattle.std.proofs.Common.{arith}
use Rattle.std.proofs.lemmas.Grind.{common_steps}
use Rattle.mb_report.proofs.totals.write_totals.Goals as goal

pub returns : goal.returns
returns c = grind (arith, common_steps)
