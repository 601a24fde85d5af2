use Rattle.mb_refinement.proofs.Beginnings.{new_gates_begin}
use Rattle.mb_refinement.proofs.run_laws.new_gates_show_a_beginning.Goals as goal

pub returns : goal.returns
returns g c = λ first. new_gates_begin (g.H.MailboxState.is_of first) g.H.MailboxState.facts
