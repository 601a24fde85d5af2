use Rattle.std.proofs.Common.{sym, ◌∙◌, rules}
use Rattle.mb_cell.specs.WithoutEffect.DoesNothing.{fresh_suspend}
use Rattle.mb_cell.proofs.DispatchLemmas.{is_fresh}
use Rattle.mb_cell.proofs.cell.Cell.dispatch_suspend.Goals as goal

pub apply_nothing-requires-clause-nothing : goal.apply_nothing-requires-clause-nothing
apply_nothing-requires-clause-nothing g c = fresh_suspend (is_fresh _ (sym c.is_fresh.ensures ∙ c.if-is_fresh.true))

pub apply_suspend-requires-clause-not_fresh : goal.apply_suspend-requires-clause-not_fresh
apply_suspend-requires-clause-not_fresh g c = search rules
