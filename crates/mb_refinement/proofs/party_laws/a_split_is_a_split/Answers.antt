use Rattle.mb_refinement.proofs.PartyEvents.{splits_are_splits}
use Rattle.mb_refinement.proofs.party_laws.a_split_is_a_split.Goals as goal

pub returns : goal.returns
returns g c = λ first. splits_are_splits (g.H.MailboxState.is_of first) g.H.MailboxState.facts
