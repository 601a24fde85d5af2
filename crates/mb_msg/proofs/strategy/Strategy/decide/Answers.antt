use Rattle.std.proofs.Common.{arith}
use Rattle.std.proofs.lemmas.Grind.{common_steps}
use Rattle.mb_msg.proofs.strategy.Strategy.decide.Goals as goal

pub returns-then-is_of : goal.returns-then-is_of
returns-then-is_of c = grind (arith, common_steps)

pub returns : goal.returns
returns c = grind (arith, common_steps)
