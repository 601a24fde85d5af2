use Rattle.std.proofs.Common.{rules}
use Rattle.mb_scenario.proofs.sends.send_of.Goals as goal

pub returns : goal.returns
returns c = search rules
