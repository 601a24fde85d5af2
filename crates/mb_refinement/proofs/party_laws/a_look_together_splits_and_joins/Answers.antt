use Rattle.mb_refinement.proofs.PartyEvents.{moves_are_splits, together_is_join, again_is_part}
use Rattle.mb_refinement.proofs.party_laws.a_look_together_splits_and_joins.Goals as goal

pub returns-clause-moved : goal.returns-clause-moved
returns-clause-moved g c = λ first. moves_are_splits (g.H.MailboxState.is_of first) g.H.MailboxState.facts

pub returns-clause-joined : goal.returns-clause-joined
returns-clause-joined g c = λ first. together_is_join (g.H.MailboxState.is_of first) g.H.MailboxState.facts

pub returns-clause-parted : goal.returns-clause-parted
returns-clause-parted g c = λ first. again_is_part (g.H.MailboxState.is_of first) g.H.MailboxState.facts
