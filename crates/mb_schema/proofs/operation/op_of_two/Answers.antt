use Rattle.std.proofs.Common.{rules}
use Rattle.mb_schema.proofs.operation.op_of_two.Goals as goal

pub returns : goal.returns
returns c = search rules
