use Rattle.std.proofs.Common.{rules}
use Rattle.mb_schema.proofs.operation.op_reason.Goals as goal

pub returns-in-Some-Add : goal.returns-in-Some-Add
returns-in-Some-Add c = search rules
