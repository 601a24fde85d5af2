use Rattle.mb_refinement.proofs.StatusEvents.{load_is_read}
use Rattle.mb_refinement.proofs.status_laws.a_load_of_a_status_is_a_reading.Goals as goal

pub returns : goal.returns
returns g c = λ first. load_is_read (g.H.MailboxState.is_of first) g.H.MailboxState.facts
