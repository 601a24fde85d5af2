use Rattle.mb_core.proofs.HeldLemmas.{held_change, held_step}
use Rattle.mb_core.proofs.laws.step_keeps_holders.Goals as goal

pub returns-clause-of_its_actor : goal.returns-clause-of_its_actor
returns-clause-of_its_actor c = held_change

pub returns-clause-of_all : goal.returns-clause-of_all
returns-clause-of_all c = held_step
