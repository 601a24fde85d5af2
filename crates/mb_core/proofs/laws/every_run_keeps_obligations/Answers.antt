use Rattle.mb_core.proofs.SettledLemmas.{settled_run}
use Rattle.mb_core.proofs.laws.every_run_keeps_obligations.Goals as goal

pub returns : goal.returns
returns c = settled_run
