-- What each sender is to send, of orders that stand in one row (this project's own profile: in Akka whoever has a reference sends).
use Rattle.std.specs.Prelude.{ℕ, ◌+◌, ◌==◌, nat_le, Bool, List, [], ◌∷◌, filter, map, max}
use Rattle.mb_build.specs.Numbers.{numbers}
use Rattle.mb_msg.specs.declared.order.Order.{Order}
use Rattle.mb_msg.specs.declared.order.SenderOrder.{SenderOrder}

-- Those of the sender of this number, in their order.
abbrev pub sends_by : ℕ → List SenderOrder → List SenderOrder
sends_by from = filter (λ (s : SenderOrder). s.from == from)

-- All that this sender is to send, in its order.
abbrev pub orders_of : ℕ → List SenderOrder → List Order
orders_of from sends = map (λ (s : SenderOrder). s.order) (sends_by from sends)

-- This one is from none of so many senders, of which the first has number 0.
abbrev pub is_from_nobody : ℕ → SenderOrder → Bool
is_from_nobody senders send = nat_le senders send.from

-- How many senders it takes: so many, and more where one of these is from a sender of a greater number.
abbrev pub senders_for : ℕ → List SenderOrder → ℕ
senders_for senders [] = senders
senders_for senders (s ∷ sends) = max (s.from + 1) (senders_for senders sends)

-- What each of these senders is to send, the first sender first.
abbrev pub lists_of : ℕ → List SenderOrder → List (List Order)
lists_of senders sends = map (λ number. orders_of number sends) (numbers 0 (senders_for senders sends))
