use Rattle.mb_gate.proofs.Shows.{shows_closed}
use Rattle.mb_gate.proofs.laws.closed_receivers_are_closed.Goals as goal

pub returns : goal.returns
returns g c = λ first. shows_closed (g.H.MailboxState.is_of first) g.H.MailboxState.facts
