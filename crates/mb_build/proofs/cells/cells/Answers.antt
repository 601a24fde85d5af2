use Rattle.std.proofs.Common.{◌+◌, length, map, sym, ap, ◌∙◌, arith}
use Rattle.std.proofs.lemmas.List.{length-map}
use Rattle.std.proofs.lemmas.Result.{IfOk-from_err}
use Rattle.mb_build.proofs.CellLemmas.{all-cells}
use Rattle.mb_build.proofs.cells.cells.Goals as goal

pub first_cell-requires : goal.first_cell-requires
first_cell-requires g c =
    let are = c.in_ok-parents.ensures ∙ ap (map (λ a. a.parent)) c.deref.ensures.value in
    let count = ap length (c.deref-2.ensures.value ∙ are) ∙ length-map c.args.plans.items (λ a. a.parent) in
    let few = c.requires.within_limit.0 in
    record { within_limit = (omega (arith, count, few), c.requires.within_limit.1) }

pub add_cells-requires : goal.add_cells-requires
add_cells-requires g c =
    let are = c.in_ok-parents.ensures ∙ ap (map (λ a. a.parent)) c.deref.ensures.value in
    let count = ap length (c.deref-3.ensures.value ∙ are) ∙ length-map c.args.plans.items (λ a. a.parent) in
    let few = c.requires.within_limit.0 in record {
      within_limit = (ap length c.in_ok-cells.ensures.first, omega (arith, count, few), c.requires.within_limit.1);
      room = c.in_ok-cells.ensures.room ∙ ap (λ l. length l + 1) (c.deref-2.ensures.value ∙ sym c.deref-3.ensures.value);
      same_count = (sym count, c.requires.same_count ∙ sym count);
      behaved = c.requires.behaved;
    }

pub returns : goal.returns
returns g c =
    let are = c.in_ok-parents.ensures ∙ ap (map (λ a. a.parent)) c.deref.ensures.value in
    all-cells c.args.journal c.args.journal_limit c.args.plans.items c.deref-2.result.now c.deref-3.result.now c.in_ok-cells.cells.items c.add_cells.new.cells.items
    (c.deref-2.ensures.value ∙ are) (c.deref-3.ensures.value ∙ are) c.in_ok-cells.ensures.first c.in_ok-add_cells.ensures

pub returns-in_err-parents : goal.returns-in_err-parents
returns-in_err-parents g c = IfOk-from_err c.from_residual.result _ c.from_residual.ensures.0

pub returns-in_err-cells : goal.returns-in_err-cells
returns-in_err-cells g c = IfOk-from_err c.from_residual-in_err-cells.result _ c.from_residual-in_err-cells.ensures.0

pub returns-in_err-add_cells : goal.returns-in_err-add_cells
returns-in_err-add_cells g c = IfOk-from_err c.from_residual-in_err-add_cells.result _ c.from_residual-in_err-add_cells.ensures.0
