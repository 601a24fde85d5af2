use Rattle.mb_refinement.proofs.StatusEvents.{load_by_the_holder_is_none}
use Rattle.mb_refinement.proofs.status_laws.a_load_by_the_holder_is_no_event.Goals as goal

pub returns : goal.returns
returns g c = λ first. load_by_the_holder_is_none (g.H.MailboxState.is_of first) g.H.MailboxState.facts
