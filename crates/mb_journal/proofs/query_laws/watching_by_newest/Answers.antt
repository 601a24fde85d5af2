use Rattle.mb_journal.proofs.WatchingLaw.{watching-newest}
use Rattle.mb_journal.proofs.query_laws.watching_by_newest.Goals as goal

pub returns : goal.returns
returns c = watching-newest
