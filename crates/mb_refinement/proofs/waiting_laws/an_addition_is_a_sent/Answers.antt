use Rattle.mb_refinement.proofs.WaitingEvents.{addition_is_sent}
use Rattle.mb_refinement.proofs.waiting_laws.an_addition_is_a_sent.Goals as goal

pub returns : goal.returns
returns g c = λ first. addition_is_sent (g.H.MailboxState.is_of first) g.H.MailboxState.facts
