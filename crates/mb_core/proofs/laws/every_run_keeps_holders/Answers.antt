use Rattle.mb_core.proofs.HeldLemmas.{held_run}
use Rattle.mb_core.proofs.laws.every_run_keeps_holders.Goals as goal

pub returns : goal.returns
returns c = held_run
