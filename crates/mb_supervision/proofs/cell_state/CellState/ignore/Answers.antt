use Rattle.std.proofs.Common.{rules}
use Rattle.mb_supervision.proofs.cell_state.CellState.ignore.Goals as goal

pub returns : goal.returns
returns c = search rules
