use Rattle.std.proofs.Common.{◌≡◌, ◌≤◌, length}
use Rattle.mb_script.specs.Index.{IsIndexFrom}
use Rattle.mb_script.proofs.index.index_of.Given as goal

-- the rows from the place on are in the index
abbrev pub invariant-loop-place : goal.invariant-loop-place
invariant-loop-place l = record {
  within : l.place ≤ length l.rows;
  count : length l.index.items ≡ length l.rows;
  indexed : IsIndexFrom l.place l.rows l.index.items;
}

abbrev pub decreases-loop-place : goal.decreases-loop-place
decreases-loop-place l = l.place
