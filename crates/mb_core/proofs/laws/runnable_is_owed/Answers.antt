use Rattle.mb_core.proofs.RunnableLemmas.{runnable_owed, paid_idle}
use Rattle.mb_core.proofs.laws.runnable_is_owed.Goals as goal

pub returns-clause-owed : goal.returns-clause-owed
returns-clause-owed c = runnable_owed

pub returns-clause-not_runnable : goal.returns-clause-not_runnable
returns-clause-not_runnable c = paid_idle
