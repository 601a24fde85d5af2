use Rattle.mb_gate.proofs.Shows.{shows}
use Rattle.mb_gate.proofs.laws.words_show_the_machine.Goals as goal

pub returns : goal.returns
returns g c = λ first. shows (g.H.MailboxState.is_of first) g.H.MailboxState.facts
