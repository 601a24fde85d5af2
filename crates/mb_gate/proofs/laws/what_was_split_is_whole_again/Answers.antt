use Rattle.mb_ghost.proofs.SharesLemmas.{whole_one, whole_again}
use Rattle.mb_gate.proofs.laws.what_was_split_is_whole_again.Goals as goal

pub returns : goal.returns
returns c = (whole_one, (λ v whole. whole_again v.share whole))
