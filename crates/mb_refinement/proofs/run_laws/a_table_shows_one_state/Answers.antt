use Rattle.mb_refinement.proofs.Interleavings.{shows_one}
use Rattle.mb_refinement.proofs.run_laws.a_table_shows_one_state.Goals as goal

pub returns : goal.returns
returns g c = λ first. shows_one (g.H.MailboxState.is_of first) g.H.MailboxState.facts
