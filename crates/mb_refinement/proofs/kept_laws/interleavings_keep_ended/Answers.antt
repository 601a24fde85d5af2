use Rattle.mb_refinement.proofs.KeptFacts.{stays_ended_over}
use Rattle.mb_refinement.proofs.kept_laws.interleavings_keep_ended.Goals as goal

pub returns : goal.returns
returns g c = λ first. stays_ended_over (g.H.MailboxState.is_of first) g.H.MailboxState.facts c.step_keeps_ended.ensures
