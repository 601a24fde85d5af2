use Rattle.std.proofs.Common.{◌≡◌, length, take, vec_capacity}
use Rattle.mb_build.proofs.kinds.rows_of.Given as goal

abbrev pub invariant-loop-rank : goal.invariant-loop-rank
invariant-loop-rank l = (l.rows.items ≡ take l.rank-index l.ranks)
    × (length l.rows.items ≡ l.rank-index) × (vec_capacity l.rows ≡ length l.ranks)
