use Rattle.std.proofs.Common.{subst}
use Rattle.mb_cell.specs.CellView.{TakesSystem}
use Rattle.mb_home.specs.Contents.{Contents}
use Rattle.mb_home.proofs.home.Home.apply.Goals as goal

pub returns-clause-taken : goal.returns-clause-taken
returns-clause-taken g c =
    subst (λ (x : Contents). TakesSystem x.cell c.apply_system.new.self c.args.number c.args.message) c.self.view_is c.apply_system.ensures.taken

pub returns-clause-lawful : goal.returns-clause-lawful
returns-clause-lawful g c = c.apply_system.ensures.lawful
