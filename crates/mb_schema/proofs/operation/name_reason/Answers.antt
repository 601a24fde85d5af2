use Rattle.std.proofs.Common.{rules}
use Rattle.mb_schema.proofs.operation.name_reason.Goals as goal

pub returns : goal.returns
returns c = search rules
