use Rattle.mb_journal.proofs.ChildrenLaw.{children-remain}
use Rattle.mb_journal.proofs.query_laws.children_in_order.Goals as goal

pub returns : goal.returns
returns c = children-remain
