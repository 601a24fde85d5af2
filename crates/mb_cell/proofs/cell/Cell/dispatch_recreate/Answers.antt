use Rattle.std.proofs.Common.{sym, ◌∙◌, rules}
use Rattle.mb_cell.specs.WithoutEffect.DoesNothing.{fresh_recreate, of_guardian}
use Rattle.mb_cell.proofs.DispatchLemmas.{is_fresh}
use Rattle.mb_cell.proofs.cell.Cell.dispatch_recreate.Goals as goal
use Rattle.mb_cell.proofs.cell.Cell.dispatch_recreate.Goals.{then-is_fresh, else-is_fresh}

pub apply_nothing-requires-clause-nothing : goal.apply_nothing-requires-clause-nothing
apply_nothing-requires-clause-nothing g c =
    elim c.if-is_fresh.branch [
      | then-is_fresh w ↦ fresh_recreate c.args.cause (is_fresh _ (sym c.is_fresh.ensures ∙ w.if-is_fresh.true))
      | else-is_fresh w ↦ of_guardian c.args.cause (sym w.is_guardian.ensures ∙ (sym w.value-is ∙ c.if-is_guardian.true))
    ]

pub apply_recreate-requires-clause-an_actor : goal.apply_recreate-requires-clause-an_actor
apply_recreate-requires-clause-an_actor g c = search rules
