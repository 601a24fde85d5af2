use Rattle.mb_refinement.proofs.StatusEvents.{store_is_by_the_holder}
use Rattle.mb_refinement.proofs.status_laws.a_store_is_by_the_holder.Goals as goal

pub returns : goal.returns
returns g c = λ first. store_is_by_the_holder (g.H.MailboxState.is_of first) g.H.MailboxState.facts
