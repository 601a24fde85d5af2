use Rattle.std.proofs.Common.{rules}
use Rattle.mb_cell.proofs.cell.Cell.phase.Goals as goal

pub returns : goal.returns
returns g c = search rules
