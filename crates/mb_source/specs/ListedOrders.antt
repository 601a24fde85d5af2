-- What a list of orders gives.
use Rattle.std.specs.Prelude.{◌≡◌, ◌+◌, length, Option, option_to_list, slice_get}
use Rattle.mb_msg.specs.declared.order.Order.{Order}
use Rattle.mb_source.specs.declared.order_list.OrderList.{OrderList}

-- The order at the place to which the list came, and then the list is one place further; or nothing, at its end.
abbrev pub GivesFromList : OrderList → Option Order → OrderList → Type 0
GivesFromList old next new = (next ≡ slice_get old.orders.items old.next) × (new.orders ≡ old.orders)
    × (new.next ≡ old.next + length (option_to_list next))

-- An order that comes back changes nothing.
abbrev pub IsUnchanged : OrderList → Order → OrderList → Type 0
IsUnchanged old order new = new ≡ old
