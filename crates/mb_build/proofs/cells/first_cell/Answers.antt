use Rattle.std.proofs.Common.{◌++◌, ◌∷◌, [], ap, ◌∙◌}
use Rattle.std.proofs.lemmas.Result.{IfOk-from_err}
use Rattle.mb_build.proofs.cells.first_cell.Goals as goal

pub returns-clause-first : goal.returns-clause-first
returns-clause-first g c =
    c.push_reserved.ensures.items
    ∙ ap (λ l. l ++ c.in_ok-guardian.field-0 ∷ []) c.in_ok-cells.ensures.items ∙ ap (λ x. x ∷ []) c.in_ok-guardian.ensures

pub returns-in_err-cells-clause-first : goal.returns-in_err-cells-clause-first
returns-in_err-cells-clause-first g c = IfOk-from_err c.from_residual.result _ c.from_residual.ensures.0

pub returns-in_err-cells-clause-room : goal.returns-in_err-cells-clause-room
returns-in_err-cells-clause-room g c = IfOk-from_err c.from_residual.result _ c.from_residual.ensures.0

pub returns-in_err-guardian-clause-first : goal.returns-in_err-guardian-clause-first
returns-in_err-guardian-clause-first g c = IfOk-from_err c.from_residual-in_err-guardian.result _ c.from_residual-in_err-guardian.ensures.0

pub returns-in_err-guardian-clause-room : goal.returns-in_err-guardian-clause-room
returns-in_err-guardian-clause-room g c = IfOk-from_err c.from_residual-in_err-guardian.result _ c.from_residual-in_err-guardian.ensures.0
