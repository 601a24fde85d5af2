use Rattle.mb_cell.proofs.UnappliedLaw.{held-unapplied}
use Rattle.mb_cell.proofs.cell.Cell.aside.Goals as goal

pub returns-clause-unapplied : goal.returns-clause-unapplied
returns-clause-unapplied g c =
    held-unapplied _ _ _ _ _ _ _ c.args.self.now c.self.invariant.0 c.self.view_is c.aside.result.now c.aside.ensures
