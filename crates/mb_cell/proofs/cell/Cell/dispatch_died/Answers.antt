use Rattle.std.proofs.Common.{sym, ◌∙◌, rules}
use Rattle.mb_cell.specs.WithoutEffect.DoesNothing.{fresh_died}
use Rattle.mb_cell.proofs.DispatchLemmas.{is_fresh}
use Rattle.mb_cell.proofs.cell.Cell.dispatch_died.Goals as goal

pub apply_nothing-requires-clause-nothing : goal.apply_nothing-requires-clause-nothing
apply_nothing-requires-clause-nothing g c = fresh_died c.args.id (is_fresh _ (sym c.is_fresh.ensures ∙ c.if-is_fresh.true))

pub apply_last_end-requires-clause-last : goal.apply_last_end-requires-clause-last
apply_last_end-requires-clause-last g c = search rules

pub apply_last_stop-requires-clause-last : goal.apply_last_stop-requires-clause-last
apply_last_stop-requires-clause-last g c = search rules
