use Rattle.bank.specs.Conserved.{added_by, holdings}
use Rattle.bank.proofs.open.run.Goals as goal

pub returns : goal.returns
returns g c = let three = c.in_ok-add-3.ensures.added.actors in let two = c.in_ok-add-2.ensures.added.actors in let one = c.in_ok-add.ensures.added.actors in
    let none = c.new-bank.ensures.actors in record { conserved = c.in_ok-done.ensures.conserved added_by (holdings c.args.opening) (λ x. (cc)) (simp (three, two, one, none) (c.requires.teller, (c.requires.alice, (c.requires.bob, tt)))) }
