use Rattle.std.proofs.Common.{rules}
use Rattle.mb_schema.proofs.number.is_decimal.Goals as goal

pub returns-else-are_digits : goal.returns-else-are_digits
returns-else-are_digits c = search rules

pub returns-then-are_digits : goal.returns-then-are_digits
returns-then-are_digits c = search rules
