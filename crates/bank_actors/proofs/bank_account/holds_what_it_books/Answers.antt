use Rattle.bank_actors.proofs.Booking.{account-holds}
use Rattle.bank_actors.proofs.bank_account.holds_what_it_books.Goals as goal

pub returns : goal.returns
returns c = account-holds
