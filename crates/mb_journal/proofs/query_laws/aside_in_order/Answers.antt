use Rattle.mb_journal.proofs.ChildrenLaw.{aside-remain}
use Rattle.mb_journal.proofs.query_laws.aside_in_order.Goals as goal

pub returns : goal.returns
returns c = aside-remain
