use Rattle.mb_home.proofs.NamedLaw.{named-applied, named-begun}
use Rattle.mb_home.proofs.laws.what_is_sent_names_actors.Goals as goal

pub returns-clause-applied : goal.returns-clause-applied
returns-clause-applied g c = λ old new n s a. named-applied (g.K.Behaviours.gives new.cell.who.this.0) old new n s a

pub returns-clause-begun : goal.returns-clause-begun
returns-clause-begun g c = λ old new reading n s b. named-begun (g.K.Behaviours.gives new.cell.who.this.0) old new n s reading b
