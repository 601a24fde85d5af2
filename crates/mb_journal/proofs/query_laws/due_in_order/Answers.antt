use Rattle.mb_journal.proofs.DueLaw.{due-ordered}
use Rattle.mb_journal.proofs.query_laws.due_in_order.Goals as goal

pub returns : goal.returns
returns c = due-ordered
