use Rattle.std.proofs.Common.{◌≡◌, [], ◌∷◌, ◌++◌, length, map}
use Rattle.std.specs.Vec.Iter.{into_iter_items}
use Rattle.mb_pool.specs.Endpoints.{next_of, own_of}
use Rattle.mb_pool.proofs.new_worker_deques.pair.Given as goal

abbrev pub invariant-loop-own_deque : goal.invariant-loop-own_deque
invariant-loop-own_deque g l = (map own_of l.members.items ++ map (λ o. o ∷ []) (into_iter_items l.own_deque-iterator) ≡ map (λ o. o ∷ []) l.fn.owns.items)
    × (map next_of l.members.items ++ map (λ v. v.items) (into_iter_items l.lists) ≡ map (λ v. v.items) l.fn.lists.items)
    × (length (into_iter_items l.own_deque-iterator) ≡ length (into_iter_items l.lists))
