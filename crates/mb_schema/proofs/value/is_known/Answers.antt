use Rattle.std.proofs.Common.{rules}
use Rattle.mb_schema.proofs.value.is_known.Goals as goal

pub returns-else-is_guardian : goal.returns-else-is_guardian
returns-else-is_guardian c = search rules

pub returns-else-is_guardian-2 : goal.returns-else-is_guardian-2
returns-else-is_guardian-2 c = search rules
