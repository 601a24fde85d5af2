use Rattle.mb_journal.proofs.WatchersLaw.{watchers-ordered}
use Rattle.mb_journal.proofs.query_laws.watchers_in_order.Goals as goal

pub returns : goal.returns
returns c = watchers-ordered
