use Rattle.mb_refinement.proofs.StatusEvents.{won_is_schedule, won_knows_drain, lost_is_read}
use Rattle.mb_refinement.proofs.status_laws.an_exchange_is_a_schedule_or_a_reading.Goals as goal

pub returns-clause-won : goal.returns-clause-won
returns-clause-won g c = λ first. won_is_schedule g.H.MailboxState.is_of first g.H.MailboxState.facts

pub returns-clause-lost : goal.returns-clause-lost
returns-clause-lost g c = λ first. lost_is_read g.H.MailboxState.is_of first g.H.MailboxState.facts

pub returns-clause-known : goal.returns-clause-known
returns-clause-known g c = λ first. won_knows_drain g.H.MailboxState.is_of first g.H.MailboxState.facts
