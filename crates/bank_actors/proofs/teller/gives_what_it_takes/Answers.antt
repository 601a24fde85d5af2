use Rattle.bank_actors.proofs.Evenness.{teller_even}
use Rattle.bank_actors.proofs.teller.gives_what_it_takes.Goals as goal

pub returns : goal.returns
returns c = teller_even
