use Rattle.mb_journal.proofs.WaitingLaw.{aside-waits}
use Rattle.mb_journal.proofs.query_laws.aside_has_to_wait.Goals as goal

pub returns : goal.returns
returns g c = λ who before number m outcome. aside-waits who before (g.K.Behaviours.gives who.this.0) number m outcome
