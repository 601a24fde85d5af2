use Rattle.mb_refinement.proofs.Interleavings.{interleavings_are_runs}
use Rattle.mb_refinement.proofs.run_laws.every_interleaving_is_a_run.Goals as goal

pub returns : goal.returns
returns g c = λ first. interleavings_are_runs (g.H.MailboxState.is_of first) g.H.MailboxState.facts
