use Rattle.mb_refinement.proofs.WaitingEvents.{load_is_count}
use Rattle.mb_refinement.proofs.waiting_laws.a_load_of_a_count_is_a_count.Goals as goal

pub returns : goal.returns
returns g c = λ first. load_is_count (g.H.MailboxState.is_of first) g.H.MailboxState.facts
