use Rattle.mb_core.proofs.BetweenLemmas.{alone_change}
use Rattle.mb_core.proofs.laws.step_counts_by_the_holder.Goals as goal

pub returns : goal.returns
returns c = alone_change
