-- The fifo of control messages lends the account of a sender, where there is one.
use Rattle.std.specs.Prelude.{◌≡◌, ℕ, Option, Some, None}
use Rattle.mb_queue.specs.Ledger.{MayLend, lending, borrowing}
use Rattle.mb_queue.specs.Port.{FifoPort}
use Rattle.mb_queue.specs.declared.take_order.TakeOrder.{TakeOrder}
use Rattle.mb_queue.specs.declared.take_order.TakeOrder.TheVariants.{FirstInFirstOut, ControlFirst, ByRank}

-- the fifo of control messages, where there is one, can lend the account of this sender
abbrev pub MayLendControl : ℕ → TakeOrder → Type 0
MayLendControl by FirstInFirstOut = Unit {0}
MayLendControl by (ControlFirst control) = MayLend by control.ledger
MayLendControl by (ByRank choice) = Unit {0}

-- the order after the account was lent, and the port that it was lent to
abbrev pub order_lent : ℕ → TakeOrder → TakeOrder
order_lent by FirstInFirstOut = FirstInFirstOut
order_lent by (ControlFirst control) = ControlFirst (record control { ledger = lending by control.ledger })
order_lent by (ByRank choice) = ByRank choice

abbrev pub port_lent : ℕ → TakeOrder → Option FifoPort
port_lent by FirstInFirstOut = None
port_lent by (ControlFirst control) = Some (record control { ledger = borrowing by control.ledger })
port_lent by (ByRank choice) = None

-- the order and the sender's port after the fifo of control messages, where there is one, lent the account
abbrev pub LendsControl : ℕ → TakeOrder → TakeOrder → Option FifoPort → Type 0
LendsControl by order order' port = (order' ≡ order_lent by order) × (port ≡ port_lent by order)
