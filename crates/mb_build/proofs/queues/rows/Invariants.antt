use Rattle.std.proofs.Common.{◌≡◌, [], length, map, replicate, vec_capacity}
use Rattle.mb_build.proofs.queues.rows.Given as goal

abbrev pub invariant-loop-row : goal.invariant-loop-row
invariant-loop-row l = (map (λ row. row.items) l.rows.items ≡ replicate l._row [])
    × (length l.rows.items ≡ l._row) × (vec_capacity l.rows ≡ l.count)
