use Rattle.std.proofs.Common.{◌≡◌, take}
use Rattle.std.specs.Prelude.{filter}
use Rattle.mb_world.specs.World.{is_carried_out}
use Rattle.mb_world.proofs.order_queue.OrderQueue.new.Given as goal

abbrev pub invariant-loop-order : goal.invariant-loop-order
invariant-loop-order l = l.some.items ≡ filter is_carried_out (take l.order-index l.orders)
