-- Which order an error names that refuses a run before it begins (this project's own profile).
use Rattle.std.specs.Prelude.{◌≡◌, ℕ, Bool, List, Some, slice_get}
use Rattle.std.specs.List.{list_any, position_from}
use Rattle.mb_msg.specs.declared.id.ActorId.{ActorId}
use Rattle.mb_msg.specs.declared.order.Order.{Order}
use Rattle.mb_msg.specs.declared.order.SenderOrder.{SenderOrder}
use Rattle.heddleorange.specs.NoReport.{has_nobody}
use Rattle.heddleorange.specs.Orders.{is_from_nobody}
use Rattle.heddleorange.specs.declared.error.Error.{Error}
use Rattle.heddleorange.specs.declared.error.Error.TheVariants.{BadPlan, OrderLists, NoSuchSender, NoSuchActor, NoMemory, NoMemoryInRun, JournalFull, Mismatch, NameTaken}

-- This stands at this place, counted from 0, and is the first that is so.
abbrev pub IsFirstAt : {X : Type 0} → (X → Bool) → List X → ℕ → X → Type 0
IsFirstAt is_so xs place x = (position_from is_so 0 xs ≡ Some place) × (slice_get xs place ≡ Some x)

-- Of the first sender that has an order which can go to no actor, this is the place of its first such order, and to whom that is to go.
abbrev pub IsFirstForNobody : ℕ → List (List Order) → ℕ → ℕ → ActorId → Type 0
IsFirstForNobody actors orders sender place to = (own : List Order) × (order : Order) × IsFirstAt (list_any (has_nobody actors)) orders sender own
    × IsFirstAt (has_nobody actors) own place order × (to ≡ order.to)

-- Where each sender has a list of orders, the error names the first order that can go to no actor, by its sender and by its place in the list. None
-- speaks of a sender that there is not.
abbrev pub NamesInLists : ℕ → List (List Order) → Error → Type 0
NamesInLists actors orders (NoSuchActor sender place to) = IsFirstForNobody actors orders sender place to
NamesInLists actors orders (NoSuchSender place sender) = ⊥
NamesInLists actors orders (BadPlan reason) = Unit {0}
NamesInLists actors orders (OrderLists lists senders) = Unit {0}
NamesInLists actors orders NoMemory = Unit {0}
NamesInLists actors orders NoMemoryInRun = Unit {0}
NamesInLists actors orders (JournalFull id) = Unit {0}
NamesInLists actors orders (Mismatch what) = Unit {0}
NamesInLists actors orders (NameTaken id) = Unit {0}

-- Where the orders of all senders stand in one row, the error names the first of them that is from no sender, or the first that can go to no actor, by
-- its place in the row. None speaks of a number of lists.
abbrev pub NamesInRow : ℕ → ℕ → List SenderOrder → Error → Type 0
NamesInRow senders actors row (NoSuchActor sender place to) =
    (send : SenderOrder) × IsFirstAt (λ (s : SenderOrder). has_nobody actors s.order) row place send × (sender ≡ send.from) × (to ≡ send.order.to)
NamesInRow senders actors row (NoSuchSender place sender) =
    (send : SenderOrder) × IsFirstAt (is_from_nobody senders) row place send × (sender ≡ send.from)
NamesInRow senders actors row (OrderLists lists given) = ⊥
NamesInRow senders actors row (BadPlan reason) = Unit {0}
NamesInRow senders actors row NoMemory = Unit {0}
NamesInRow senders actors row NoMemoryInRun = Unit {0}
NamesInRow senders actors row (JournalFull id) = Unit {0}
NamesInRow senders actors row (Mismatch what) = Unit {0}
NamesInRow senders actors row (NameTaken id) = Unit {0}
