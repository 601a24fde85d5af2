use Rattle.heddleorange.proofs.Conserved.{all-worth-adds-up}
use Rattle.heddleorange.proofs.conservation.what_is_sent_adds_up.Goals as goal

pub returns : goal.returns
returns c = all-worth-adds-up
