use Rattle.mb_gate.proofs.Unclaimed.{shows_unclaimed}
use Rattle.mb_gate.proofs.laws.what_nobody_claimed_is_open.Goals as goal

pub returns : goal.returns
returns g c = λ first. shows_unclaimed (g.H.MailboxState.is_of first) g.H.MailboxState.facts
