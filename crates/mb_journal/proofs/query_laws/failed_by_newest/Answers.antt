use Rattle.mb_journal.proofs.FailedLaw.{failed-newest}
use Rattle.mb_journal.proofs.query_laws.failed_by_newest.Goals as goal

pub returns : goal.returns
returns c = failed-newest
