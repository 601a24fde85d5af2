use Rattle.mb_journal.proofs.Naming.{kept-in-order}
use Rattle.mb_journal.proofs.laws.fates_in_send_order.Goals as goal

pub returns : goal.returns
returns c = kept-in-order
