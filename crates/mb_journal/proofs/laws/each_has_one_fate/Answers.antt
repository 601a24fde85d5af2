use Rattle.mb_journal.proofs.Naming.{stands-once}
use Rattle.mb_journal.proofs.laws.each_has_one_fate.Goals as goal

pub returns : goal.returns
returns c = stands-once
