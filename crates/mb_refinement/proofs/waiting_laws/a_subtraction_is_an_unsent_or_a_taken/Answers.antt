use Rattle.mb_refinement.proofs.WaitingEvents.{subtraction_is_unsent, subtraction_is_taken}
use Rattle.mb_refinement.proofs.waiting_laws.a_subtraction_is_an_unsent_or_a_taken.Goals as goal

pub returns-clause-refused : goal.returns-clause-refused
returns-clause-refused g c = λ first. subtraction_is_unsent (g.H.MailboxState.is_of first) g.H.MailboxState.facts

pub returns-clause-taken : goal.returns-clause-taken
returns-clause-taken g c = λ first. subtraction_is_taken (g.H.MailboxState.is_of first) g.H.MailboxState.facts
