use Rattle.std.proofs.Common.{arith}
use Rattle.std.proofs.lemmas.Grind.{common_steps}
use Rattle.mb_scenario.proofs.sends.senders_of.Goals as goal

pub loop-send-preserved : goal.loop-send-preserved
loop-send-preserved c = grind (arith, common_steps)
