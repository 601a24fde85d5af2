use Rattle.mb_core.proofs.BetweenLemmas.{ended_change}
use Rattle.mb_core.proofs.laws.step_keeps_ended.Goals as goal

pub returns : goal.returns
returns c = ended_change
