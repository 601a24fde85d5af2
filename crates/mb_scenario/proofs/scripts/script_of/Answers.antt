use Rattle.std.proofs.Common.{rules}
use Rattle.mb_scenario.proofs.scripts.script_of.Goals as goal

pub returns : goal.returns
returns c = search rules
