use Rattle.std.proofs.Common.{refl}
use Rattle.std.proofs.lemmas.List.{get_or-replicate}
use Rattle.mb_dead_letters.proofs.tally.none_of_64.Goals as goal

pub returns : goal.returns
returns c = (refl, λ place lt. get_or-replicate 64 place 0 0 lt)
