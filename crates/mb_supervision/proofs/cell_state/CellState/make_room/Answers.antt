use Rattle.std.proofs.Common.{rules}
use Rattle.mb_supervision.proofs.cell_state.CellState.make_room.Goals as goal

pub returns-clause-ok : goal.returns-clause-ok
returns-clause-ok c = search rules
