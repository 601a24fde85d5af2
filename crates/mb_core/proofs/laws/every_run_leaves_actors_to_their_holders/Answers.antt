use Rattle.mb_core.proofs.BetweenLemmas.{stays_over, begins_over}
use Rattle.mb_core.proofs.laws.every_run_leaves_actors_to_their_holders.Goals as goal

pub returns-clause-stays : goal.returns-clause-stays
returns-clause-stays c = stays_over

pub returns-clause-begins : goal.returns-clause-begins
returns-clause-begins c = begins_over
