use Rattle.mb_world.proofs.WorldLemmas.{new-push}
use Rattle.mb_world.proofs.building.add.Goals as goal

pub returns : goal.returns
returns g c =
    let cells = c.args.built.now.cells.items in let mailboxes = c.args.built.now.mailboxes.items in
    let new = new-push _ cells mailboxes c.args.cell c.args.mailbox c.requires.so_far c.requires.few c.requires.fresh.0 c.requires.fresh.1
    c.requires.fresh.2 c.requires.own.0 c.requires.own.1 in
    rw (c.in_ok-push.ensures.items, c.in_ok-push-2.ensures.items) new
