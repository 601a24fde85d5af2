use Rattle.mb_refinement.proofs.ListEvents.{load_is_sys_read}
use Rattle.mb_refinement.proofs.list_laws.a_load_of_a_gate_is_a_look.Goals as goal

pub returns : goal.returns
returns g c = λ first. load_is_sys_read (g.H.MailboxState.is_of first) g.H.MailboxState.facts
