use Rattle.std.proofs.Common.{sym, ◌∙◌, rules}
use Rattle.mb_cell.specs.WithoutEffect.DoesNothing.{ends_already}
use Rattle.mb_cell.proofs.DispatchLemmas.{ends}
use Rattle.mb_cell.proofs.cell.Cell.dispatch_terminate.Goals as goal

pub apply_nothing-requires-clause-nothing : goal.apply_nothing-requires-clause-nothing
apply_nothing-requires-clause-nothing g c = ends_already (ends _ (sym c.is_ending.ensures ∙ c.if-is_ending.true))

pub apply_ending-requires-clause-not_ending : goal.apply_ending-requires-clause-not_ending
apply_ending-requires-clause-not_ending g c = search rules

pub apply_stop-requires-clause-live : goal.apply_stop-requires-clause-live
apply_stop-requires-clause-live g c = search rules

pub apply_end-requires-clause-not_ending : goal.apply_end-requires-clause-not_ending
apply_end-requires-clause-not_ending g c = search rules

pub apply_stop-requires-clause-an_actor : goal.apply_stop-requires-clause-an_actor
apply_stop-requires-clause-an_actor g c = search rules
