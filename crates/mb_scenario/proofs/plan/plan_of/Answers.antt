use Rattle.std.proofs.Common.{rules}
use Rattle.mb_scenario.proofs.plan.plan_of.Goals as goal

pub returns : goal.returns
returns c = search rules
