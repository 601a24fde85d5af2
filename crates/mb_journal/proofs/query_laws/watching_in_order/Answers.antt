use Rattle.mb_journal.proofs.WatchingLaw.{watching-ordered}
use Rattle.mb_journal.proofs.query_laws.watching_in_order.Goals as goal

pub returns : goal.returns
returns c = watching-ordered
