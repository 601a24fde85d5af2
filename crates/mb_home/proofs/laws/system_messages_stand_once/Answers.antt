use Rattle.mb_home.proofs.EndLaw.{counted-all}
use Rattle.mb_home.proofs.OnceLaw.{stands-once}
use Rattle.mb_home.proofs.laws.system_messages_stand_once.Goals as goal

pub returns-clause-once : goal.returns-clause-once
returns-clause-once g c = λ pending h n s less. stands-once (g.K.Behaviours.gives h.cell.who.this.0) pending h s n less

pub returns-clause-all : goal.returns-clause-all
returns-clause-all g c = λ pending h s. counted-all (g.K.Behaviours.gives h.cell.who.this.0) pending h s
