use Rattle.mb_gate.proofs.Shows.{shows_balance}
use Rattle.mb_gate.proofs.laws.waiting_is_sent_less_taken.Goals as goal

pub returns : goal.returns
returns g c = λ first. shows_balance (g.H.MailboxState.is_of first) g.H.MailboxState.facts
