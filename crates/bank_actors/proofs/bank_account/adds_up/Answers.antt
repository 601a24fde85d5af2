use Rattle.bank_actors.proofs.Booking.{balance_adds_up}
use Rattle.bank_actors.proofs.bank_account.adds_up.Goals as goal

pub returns : goal.returns
returns c = balance_adds_up
