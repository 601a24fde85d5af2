use Rattle.std.proofs.Common.{drop, arith}
use Rattle.mb_schema.proofs.Values.{too_great}
use Rattle.mb_schema.proofs.number.value_of.Goals as goal

pub returns-then-value-gt-MOST : goal.returns-then-value-gt-MOST
returns-then-value-gt-MOST c =
    too_great c.loop-digit.value _ (drop c.loop-digit.digit-index c.args.digits.now) (omega arith) c.loop-digit.invariant.same
