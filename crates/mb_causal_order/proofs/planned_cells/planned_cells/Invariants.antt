use Rattle.std.proofs.Common.{◌≡◌, ◌+◌, ◌<◌, ℕ, [], length, slice_get, get_or}
use Rattle.mb_build.specs.Planned.{actors_in}
use Rattle.mb_cell.specs.CellView.{CellView}
use Rattle.mb_causal_order.specs.Replayed.{IsReplayed}
use Rattle.mb_causal_order.proofs.planned_cells.planned_cells.Given as goal

abbrev pub invariant-loop-index : goal.invariant-loop-index
invariant-loop-index l = record {
  as_many : length l.cells.items ≡ l.index + 1;
  each : (a : ℕ) (d : CellView) → a < length l.cells.items → IsReplayed (slice_get (actors_in l.plan) a) [] (get_or l.cells.items a d);
}
