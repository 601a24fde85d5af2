use Rattle.mb_gate.proofs.Claimed.{shows_seen}
use Rattle.mb_gate.proofs.laws.what_was_seen_is_so.Goals as goal

pub returns : goal.returns
returns g c = λ first. shows_seen (g.H.MailboxState.is_of first) g.H.MailboxState.facts
