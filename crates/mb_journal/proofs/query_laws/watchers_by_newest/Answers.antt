use Rattle.mb_journal.proofs.WatchersLaw.{watchers-newest}
use Rattle.mb_journal.proofs.query_laws.watchers_by_newest.Goals as goal

pub returns : goal.returns
returns c = watchers-newest
