use Rattle.std.proofs.Common.{rules}
use Rattle.mb_schema.proofs.value.is_receiver.Goals as goal

pub returns-else-is_guardian : goal.returns-else-is_guardian
returns-else-is_guardian c = search rules

pub returns-then-is_guardian : goal.returns-then-is_guardian
returns-then-is_guardian c = search rules
