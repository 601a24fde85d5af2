use Rattle.std.proofs.Common.{rules}
use Rattle.mb_schema.proofs.value.is_in_range.Goals as goal

pub returns-in-Whole : goal.returns-in-Whole
returns-in-Whole c = search rules
