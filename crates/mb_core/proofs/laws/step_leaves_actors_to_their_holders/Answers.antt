use Rattle.mb_core.proofs.BetweenLemmas.{stays_change, begins_change}
use Rattle.mb_core.proofs.laws.step_leaves_actors_to_their_holders.Goals as goal

pub returns-clause-stays : goal.returns-clause-stays
returns-clause-stays c = stays_change

pub returns-clause-begins : goal.returns-clause-begins
returns-clause-begins c = begins_change
