use Rattle.std.proofs.Common.{ap, ◌∙◌, count_by}
use Rattle.mb_msg.specs.declared.dead_letter.DeadLetter.{DeadLetter}
use Rattle.mb_dead_letters.specs.KeptListView.{KeptListView}
use Rattle.mb_dead_letters.specs.Letters.{is_to}
use Rattle.mb_dead_letters.proofs.dead_letters.DeadLetters.to.Goals as goal

pub returns : goal.returns
returns c = c.self.invariant.0.1 c.args.receiver.0 c.requires ∙ ap (λ (l : KeptListView DeadLetter). count_by (is_to c.args.receiver.0) l.items) c.self.view_is
