use Rattle.mb_journal.proofs.ChildrenOnce.{children-within}
use Rattle.mb_journal.proofs.query_laws.children_each_once.Goals as goal

pub returns : goal.returns
returns g c = λ who journal x. children-within who (g.K.Behaviours.gives who.this.0) journal x
