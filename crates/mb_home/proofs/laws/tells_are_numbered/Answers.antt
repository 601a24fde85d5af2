use Rattle.mb_home.proofs.NumberedLaw.{told-numbered}
use Rattle.mb_home.proofs.laws.tells_are_numbered.Goals as goal

pub returns : goal.returns
returns g c = λ pending h s. told-numbered (g.K.Behaviours.gives h.cell.who.this.0) pending h s
