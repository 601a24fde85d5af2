use Rattle.mb_journal.proofs.DueLaw.{due-newest}
use Rattle.mb_journal.proofs.query_laws.due_by_newest.Goals as goal

pub returns : goal.returns
returns c = due-newest
