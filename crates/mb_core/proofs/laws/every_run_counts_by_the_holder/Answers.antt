use Rattle.mb_core.proofs.BetweenLemmas.{alone_over, known_over}
use Rattle.mb_core.proofs.laws.every_run_counts_by_the_holder.Goals as goal

pub returns-clause-alone : goal.returns-clause-alone
returns-clause-alone c = alone_over

pub returns-clause-known : goal.returns-clause-known
returns-clause-known c = known_over
