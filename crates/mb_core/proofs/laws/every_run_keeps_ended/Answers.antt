use Rattle.mb_core.proofs.BetweenLemmas.{ended_over}
use Rattle.mb_core.proofs.laws.every_run_keeps_ended.Goals as goal

pub returns : goal.returns
returns c = ended_over
