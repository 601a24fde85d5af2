use Rattle.std.proofs.Common.{rules}
use Rattle.mb_supervision.proofs.cell_state.failed.meant_by.Goals as goal

pub returns-then-all_for_one : goal.returns-then-all_for_one
returns-then-all_for_one c = search rules
