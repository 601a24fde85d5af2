use Rattle.std.proofs.Common.{rules}
use Rattle.mb_cell.proofs.cell.Cell.state.Goals as goal

pub returns-in-Some-clause-content : goal.returns-in-Some-clause-content
returns-in-Some-clause-content g c = search rules
