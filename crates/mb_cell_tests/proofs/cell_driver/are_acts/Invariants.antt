use Rattle.std.proofs.Common.{◌≡◌}
use Rattle.mb_cell_tests.proofs.cell_driver.are_acts.Given as goal

abbrev pub invariant-loop : goal.invariant-loop
invariant-loop g l = record {
  same : l.cell ≡ record l.fn.cell { acts = l.cell.acts };
}
