use Rattle.std.proofs.Common.{rules}
use Rattle.mb_cell.proofs.UnappliedLaw.{held-unapplied}
use Rattle.mb_cell.proofs.cell.Cell.into_parts.Goals as goal

pub returns-clause-aside : goal.returns-clause-aside
returns-clause-aside g c = search rules

pub returns-clause-unapplied : goal.returns-clause-unapplied
returns-clause-unapplied g c =
    held-unapplied _ _ _ _ _ _ _ c.args.self c.self.invariant.0 c.self.view_is c.into_aside.result.items c.into_aside.ensures
