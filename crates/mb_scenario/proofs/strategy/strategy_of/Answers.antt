use Rattle.std.proofs.Common.{rules}
use Rattle.mb_scenario.proofs.strategy.strategy_of.Goals as goal

pub returns : goal.returns
returns c = search rules
