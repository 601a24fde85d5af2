use Rattle.std.proofs.Common.{◌≡◌, map}
use Rattle.std.specs.List.{range_with_len}
use Rattle.mailexplore.specs.Described.{orders_of}
use Rattle.mailexplore.proofs.text_setup.lists_of.Given as goal

abbrev pub invariant-loop-from : goal.invariant-loop-from
invariant-loop-from l = map (λ list. list.items) l.lists.items ≡ map (orders_of l.sends) (range_with_len 0 l.from)
