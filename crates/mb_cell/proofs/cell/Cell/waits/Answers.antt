use Rattle.std.proofs.Common.{rules}
use Rattle.mb_cell.proofs.cell.Cell.waits.Goals as goal

pub returns-in-Recreate : goal.returns-in-Recreate
returns-in-Recreate g c = search rules
