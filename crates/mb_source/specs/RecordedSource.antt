-- A source, and the orders that it gave.
use Rattle.std.specs.Prelude.{List}
use Rattle.mb_msg.specs.declared.order.Order.{Order}

-- A source as callers see it: the source itself, and all orders that it gave since it was taken, the first one first.
pub record RecordedSource (S : Type 0) : Type 0 where
  pub source : S
  pub given : List Order
