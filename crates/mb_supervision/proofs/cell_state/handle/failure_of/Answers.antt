use Rattle.std.proofs.Common.{rules}
use Rattle.mb_supervision.proofs.cell_state.handle.failure_of.Goals as goal

pub returns-in-Kill-default : goal.returns-in-Kill-default
returns-in-Kill-default c = search rules

pub returns-in-Terminated-Some-Unhandled : goal.returns-in-Terminated-Some-Unhandled
returns-in-Terminated-Some-Unhandled c = search rules

pub returns-in_default-Some-Failed : goal.returns-in_default-Some-Failed
returns-in_default-Some-Failed c = search rules
