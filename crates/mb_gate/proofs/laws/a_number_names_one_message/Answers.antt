use Rattle.mb_gate.proofs.Shows.{shows_numbers}
use Rattle.mb_gate.proofs.laws.a_number_names_one_message.Goals as goal

pub returns : goal.returns
returns g c = λ first. shows_numbers (g.H.MailboxState.is_of first) g.H.MailboxState.facts
