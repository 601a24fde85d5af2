use Rattle.mb_refinement.proofs.StatusEvents.{store_is_idle, flag_is_idle}
use Rattle.mb_refinement.proofs.status_laws.giving_back_is_an_idle.Goals as goal

pub returns-clause-open : goal.returns-clause-open
returns-clause-open g c = λ first. store_is_idle (g.H.MailboxState.is_of first) g.H.MailboxState.facts

pub returns-clause-closed : goal.returns-clause-closed
returns-clause-closed g c = λ first. flag_is_idle (g.H.MailboxState.is_of first) g.H.MailboxState.facts
