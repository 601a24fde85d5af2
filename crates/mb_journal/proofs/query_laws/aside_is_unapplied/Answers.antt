use Rattle.mb_journal.proofs.AsideLaw.{aside-unapplied}
use Rattle.mb_journal.proofs.query_laws.aside_is_unapplied.Goals as goal

pub returns : goal.returns
returns g c = λ who journal. aside-unapplied who (g.K.Behaviours.gives who.this.0) journal
