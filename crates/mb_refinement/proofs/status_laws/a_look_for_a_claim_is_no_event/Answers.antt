use Rattle.mb_refinement.proofs.StatusEvents.{look_for_claim_is_none, load_of_flag_is_none}
use Rattle.mb_refinement.proofs.status_laws.a_look_for_a_claim_is_no_event.Goals as goal

pub returns-clause-open : goal.returns-clause-open
returns-clause-open g c = λ first. look_for_claim_is_none (g.H.MailboxState.is_of first) g.H.MailboxState.facts

pub returns-clause-closed : goal.returns-clause-closed
returns-clause-closed g c = λ first. load_of_flag_is_none (g.H.MailboxState.is_of first) g.H.MailboxState.facts
