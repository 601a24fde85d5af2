use Rattle.mb_refinement.proofs.ListEvents.{check_is_sys_drain}
use Rattle.mb_refinement.proofs.list_laws.a_check_is_a_drain_of_nothing.Goals as goal

pub returns : goal.returns
returns g c = λ first. check_is_sys_drain (g.H.MailboxState.is_of first) g.H.MailboxState.facts
