use Rattle.std.proofs.Common.{ap, subst, sym}
use Rattle.mb_msg.specs.Limits.{most_actors}
use Rattle.mb_msg.specs.declared.dead_letter.DeadLetter.{DeadLetter}
use Rattle.mb_dead_letters.specs.KeptListView.{KeptListView}
use Rattle.mb_dead_letters.specs.Letters.{is_for_number, is_to}
use Rattle.mb_dead_letters.specs.Tally.{Counts}
use Rattle.mb_dead_letters.proofs.dead_letters.DeadLetters.new.Goals as goal

pub invariant_of-result : goal.invariant_of-result
invariant_of-result c =
    let none = sym (ap (λ (l : KeptListView DeadLetter). l.items) c.in_ok-new.ensures.made) in (
      subst (Counts is_to most_actors c.none_of_64.result) none (c.none_of_64.ensures.0, λ place lt. c.none_of_64.ensures.1 place lt),
      subst (Counts is_for_number 4 c.none_of_four.result) none (c.none_of_four.ensures.0, λ place lt. c.none_of_four.ensures.1 place lt),
    )
