use Rattle.std.proofs.Common.{ap, ◌∙◌, count_by}
use Rattle.mb_msg.specs.declared.dead_letter.DeadLetter.{DeadLetter}
use Rattle.mb_dead_letters.specs.KeptListView.{KeptListView}
use Rattle.mb_dead_letters.specs.Letters.{is_for, is_for_number}
use Rattle.mb_dead_letters.proofs.dead_letters.DeadLetters.because.Goals as goal

pub returns : goal.returns
returns c =
    c.self.invariant.1.1 c.number_of.result c.number_of.ensures.below
    ∙ ap (λ n. count_by (is_for_number n) c.self.inside.letters.items) c.number_of.ensures.value
    ∙ ap (λ (l : KeptListView DeadLetter). count_by (is_for c.args.why) l.items) c.self.view_is
