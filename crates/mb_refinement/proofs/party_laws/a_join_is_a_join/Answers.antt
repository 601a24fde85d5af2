use Rattle.mb_refinement.proofs.PartyEvents.{joins_are_joins}
use Rattle.mb_refinement.proofs.party_laws.a_join_is_a_join.Goals as goal

pub returns : goal.returns
returns g c = λ first. joins_are_joins (g.H.MailboxState.is_of first) g.H.MailboxState.facts
