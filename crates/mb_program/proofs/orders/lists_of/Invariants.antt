use Rattle.std.proofs.Common.{◌≡◌, map}
use Rattle.mb_build.specs.Numbers.{numbers}
use Rattle.heddleorange.specs.Orders.{orders_of}
use Rattle.mb_program.proofs.orders.lists_of.Given as goal

abbrev pub invariant-loop-from : goal.invariant-loop-from
invariant-loop-from l = map (λ orders. orders.items) l.lists.items ≡ map (λ number. orders_of number l.sends) (numbers 0 l.from)
