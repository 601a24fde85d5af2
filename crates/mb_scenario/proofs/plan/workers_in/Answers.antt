use Rattle.std.proofs.Common.{rules}
use Rattle.mb_scenario.proofs.plan.workers_in.Goals as goal

pub returns : goal.returns
returns c = search rules
