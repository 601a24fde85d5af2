-- The order of the keys of the heap.
use Rattle.std.specs.Cmp.{IsTotalOrder, nat_cmp_total, on_total, then_total}
use Rattle.std.specs.Ordering.{nat_cmp, ordering_then}
use Rattle.std.specs.declared.cmp.Ordering.{Ordering}
use Rattle.mb_queue.specs.declared.rank_key.RankKey.{RankKey}

-- by rank, and then by arrival
abbrev pub rank_key_order : RankKey → RankKey → Ordering
rank_key_order x y = ordering_then (nat_cmp x.rank y.rank) (nat_cmp x.number y.number)

-- the order by rank, and then by arrival, is total
pub rank_key_total : IsTotalOrder rank_key_order
rank_key_total = then_total (on_total (λ (k : RankKey). k.rank) nat_cmp_total) (on_total (λ (k : RankKey). k.number) nat_cmp_total)
