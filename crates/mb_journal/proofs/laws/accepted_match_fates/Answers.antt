use Rattle.mb_journal.proofs.Counting.{stands-as-often}
use Rattle.mb_journal.proofs.laws.accepted_match_fates.Goals as goal

pub returns : goal.returns
returns c = stands-as-often
