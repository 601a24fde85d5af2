use Rattle.std.proofs.Common.{◌≡◌, ℕ, ◌<◌, get_or, length}
use Rattle.mb_cell.specs.CellView.{CellView}
use Rattle.mb_causal_order.specs.Places.{journal_of}
use Rattle.mb_causal_order.proofs.merge.has_all.Given as goal

-- all entries of the actors so far were taken
abbrev pub invariant-loop-number : goal.invariant-loop-number
invariant-loop-number l = (a : ℕ) (d : CellView) → a < l.number → length (get_or l.replay.cells.items a d).journal ≡ length (journal_of l.actors a)
