use Rattle.std.proofs.Common.{rules}
use Rattle.mb_schema.proofs.value.value_reason.Goals as goal

pub returns-then-not-has_type : goal.returns-then-not-has_type
returns-then-not-has_type c = search rules
