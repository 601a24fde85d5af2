use Rattle.mb_core.proofs.SettledLemmas.{settled_change, settled_step}
use Rattle.mb_core.proofs.laws.step_keeps_obligations.Goals as goal

pub returns-clause-of_its_actor : goal.returns-clause-of_its_actor
returns-clause-of_its_actor c = settled_change

pub returns-clause-of_all : goal.returns-clause-of_all
returns-clause-of_all c = settled_step
