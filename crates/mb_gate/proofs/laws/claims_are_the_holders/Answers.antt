use Rattle.mb_gate.proofs.Claimed.{shows_claims}
use Rattle.mb_gate.proofs.laws.claims_are_the_holders.Goals as goal

pub returns : goal.returns
returns g c = λ first. shows_claims (g.H.MailboxState.is_of first) g.H.MailboxState.facts
