use Rattle.mb_home.proofs.EndLaw.{dead-at-end}
use Rattle.mb_home.proofs.laws.what_waits_at_the_end_is_dead.Goals as goal

pub returns : goal.returns
returns g c = λ pending h s ended. dead-at-end (g.K.Behaviours.gives h.cell.who.this.0) pending h s ended
