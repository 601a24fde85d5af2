use Rattle.std.proofs.Common.{◌≡◌, take}
use Rattle.heddleorange.specs.Orders.{orders_of}
use Rattle.mb_program.proofs.orders.orders_of.Given as goal

abbrev pub invariant-loop-send : goal.invariant-loop-send
invariant-loop-send l = l.orders.items ≡ orders_of l.from (take l.send-index l.sends)
