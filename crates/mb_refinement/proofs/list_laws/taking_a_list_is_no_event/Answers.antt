use Rattle.mb_refinement.proofs.ListEvents.{take_is_none, miss_is_none, refusal_is_none}
use Rattle.mb_refinement.proofs.list_laws.taking_a_list_is_no_event.Goals as goal

pub returns-clause-taken : goal.returns-clause-taken
returns-clause-taken g c = λ first. take_is_none (g.H.MailboxState.is_of first) g.H.MailboxState.facts

pub returns-clause-missed : goal.returns-clause-missed
returns-clause-missed g c = λ first. miss_is_none (g.H.MailboxState.is_of first) g.H.MailboxState.facts

pub returns-clause-refused : goal.returns-clause-refused
returns-clause-refused g c = λ first. refusal_is_none (g.H.MailboxState.is_of first) g.H.MailboxState.facts
