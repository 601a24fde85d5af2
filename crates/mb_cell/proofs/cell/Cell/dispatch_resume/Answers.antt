use Rattle.std.proofs.Common.{sym, ◌∙◌, rules}
use Rattle.mb_cell.specs.WithoutEffect.DoesNothing.{fresh_resume}
use Rattle.mb_cell.proofs.DispatchLemmas.{is_fresh}
use Rattle.mb_cell.proofs.cell.Cell.dispatch_resume.Goals as goal

pub apply_nothing-requires-clause-nothing : goal.apply_nothing-requires-clause-nothing
apply_nothing-requires-clause-nothing g c = fresh_resume c.args.of_failure (is_fresh _ (sym c.is_fresh.ensures ∙ c.if-is_fresh.true))

pub apply_resume-requires-clause-live : goal.apply_resume-requires-clause-live
apply_resume-requires-clause-live g c = search rules
