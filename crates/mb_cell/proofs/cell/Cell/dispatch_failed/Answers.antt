use Rattle.std.proofs.Common.{sym, ◌∙◌, rules}
use Rattle.mb_cell.specs.WithoutEffect.DoesNothing.{fresh_failed, of_no_child}
use Rattle.mb_cell.proofs.DispatchLemmas.{is_fresh, not-true}
use Rattle.mb_cell.proofs.cell.Cell.dispatch_failed.Goals as goal
use Rattle.mb_cell.proofs.cell.Cell.dispatch_failed.Goals.{then-is_fresh, else-is_fresh}

pub apply_nothing-requires-clause-nothing : goal.apply_nothing-requires-clause-nothing
apply_nothing-requires-clause-nothing g c =
    elim c.if-is_fresh.branch [
      | then-is_fresh w ↦ fresh_failed c.args.child c.args.cause (is_fresh _ (sym c.is_fresh.ensures ∙ w.if-is_fresh.true))
      | else-is_fresh w ↦ of_no_child c.args.child c.args.cause (sym w.has_child.ensures ∙ not-true _ (sym w.value-is ∙ c.if-not-has_child.true))
    ]

pub apply_failed-requires-clause-of_child : goal.apply_failed-requires-clause-of_child
apply_failed-requires-clause-of_child g c = search rules
