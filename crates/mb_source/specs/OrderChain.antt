-- The ghost history of a source's orders (this project's own profile).
use Rattle.std.specs.Prelude.{List, [], ◌∷◌, ◌++◌}
use Rattle.mb_msg.specs.declared.order.Order.{Order}
use Rattle.mb_source.specs.declared.history.OrderChain.{OrderChain, Nothing, Then'}

-- the orders, the first one first
abbrev pub orders_of : OrderChain → List Order
orders_of Nothing = []
orders_of (Then' marker past order) = orders_of past ++ order ∷ []
