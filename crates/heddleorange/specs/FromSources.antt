-- What senders are to send whose orders come from sources (this project's own profile: in Akka whoever has a reference sends).
use Rattle.std.specs.Prelude.{ℕ, List, map}
use Rattle.mb_dispatch.specs.Paired.{pairs}
use Rattle.mb_msg.specs.declared.order.Order.{Order}
use Rattle.mb_source.specs.Given.{given_since, sendable}
use Rattle.mb_source.specs.RecordedSource.{RecordedSource}

-- Of the orders that each of these sources gave between these two times, those that can go to one of so many actors, in the source's order.
abbrev pub orders_given : {S : Type 0} → ℕ → List (RecordedSource S) → List (RecordedSource S) → List (List Order)
orders_given {S} actors old new =
    map (λ (both : RecordedSource S × RecordedSource S). sendable actors (given_since both.0 both.1)) (pairs old new)
