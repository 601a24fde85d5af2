use Rattle.mb_refinement.proofs.ListEvents.{store_is_sys_add, store_is_sys_drain, store_is_sys_end}
use Rattle.mb_refinement.proofs.list_laws.putting_a_list_back_is_what_was_done.Goals as goal

pub returns-clause-added : goal.returns-clause-added
returns-clause-added g c = λ first. store_is_sys_add (g.H.MailboxState.is_of first) g.H.MailboxState.facts

pub returns-clause-drained : goal.returns-clause-drained
returns-clause-drained g c = λ first. store_is_sys_drain (g.H.MailboxState.is_of first) g.H.MailboxState.facts

pub returns-clause-ended : goal.returns-clause-ended
returns-clause-ended g c = λ first. store_is_sys_end (g.H.MailboxState.is_of first) g.H.MailboxState.facts
