use Rattle.mb_gate.proofs.NotRun.{shows_not_run}
use Rattle.mb_gate.proofs.laws.what_nobody_ran_is_at_its_beginning.Goals as goal

pub returns : goal.returns
returns g c = λ first. shows_not_run (g.H.MailboxState.is_of first) g.H.MailboxState.facts
