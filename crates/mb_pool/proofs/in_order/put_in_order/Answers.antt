use Rattle.std.proofs.Common.{rules}
use Rattle.std.proofs.lemmas.List.Sorted.{IsNonDecreasingBy-from_sort_by_key}
use Rattle.mb_pool.specs.Places.{PoolEndpoint, number_of}
use Rattle.mb_pool.proofs.InOrder.{all_handles_moved, are_handles}
use Rattle.mb_pool.proofs.in_order.put_in_order.Goals as goal

pub returns-clause-in_order : goal.returns-clause-in_order
returns-clause-in_order g c =
    let sorted = c.sort_unstable_by_key.ensures in
    are_handles c.args.pool.now c.requires.whole _ (all_handles_moved c.args.pool.now _ _ sorted.permutation c.requires.all)
    (IsNonDecreasingBy-from_sort_by_key (λ (w : PoolEndpoint _). number_of w) _ sorted.sorted (λ a r q k. search rules))
