use Rattle.std.proofs.Common.{sym, ◌∙◌, rules}
use Rattle.mb_cell.specs.WithoutEffect.DoesNothing.{started_already}
use Rattle.mb_cell.proofs.cell.Cell.dispatch_create.Goals as goal

pub apply_nothing-requires-clause-nothing : goal.apply_nothing-requires-clause-nothing
apply_nothing-requires-clause-nothing g c = started_already (sym c.is_fresh.ensures ∙ c.if-is_fresh.false)

pub apply_create-requires-clause-fresh : goal.apply_create-requires-clause-fresh
apply_create-requires-clause-fresh g c = search rules

pub apply_create-requires-clause-may_take : goal.apply_create-requires-clause-may_take
apply_create-requires-clause-may_take g c = search rules

pub returns-then-is_fresh-clause-taken : goal.returns-then-is_fresh-clause-taken
returns-then-is_fresh-clause-taken g c = search rules
