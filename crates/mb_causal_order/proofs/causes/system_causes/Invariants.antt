use Rattle.std.proofs.Common.{◌≡◌, ◌<◌, ℕ, [], get_or, length}
use Rattle.mb_cell.specs.CellView.{CellView}
use Rattle.mb_causal_order.proofs.causes.system_causes.Given as goal

-- no act of a cell is left
abbrev pub invariant-loop-place : goal.invariant-loop-place
invariant-loop-place l = record {
  as_many : length l.cells.items ≡ length l.actors;
  carried_out : (a : ℕ) (d : CellView) → a < length l.cells.items → (get_or l.cells.items a d).acts ≡ [];
}
