use Rattle.std.proofs.Common.{◌≡◌, map, take}
use Rattle.mb_world_tests.proofs.case.orders_of.Given as goal

abbrev pub invariant-loop-list : goal.invariant-loop-list
invariant-loop-list l = map (λ list. list.items) l.orders.items ≡ map (λ list. list.now) (take l.list-index l.lists)
