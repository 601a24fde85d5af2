-- The order of a priority mailbox (`akka.dispatch.UnboundedStablePriorityMailbox`: equal ranks keep their order).
use Rattle.std.specs.Prelude.{◌≡◌, ◌<◌, ◌≤◌, ◌⊎◌}
use Rattle.mb_queue.specs.declared.waiting.Arrival.{Arrival}

-- the second is not before the first: its rank is greater, or the same and it came no earlier
abbrev pub IsBehind : Arrival → Arrival → Type 0
IsBehind first second = (first.rank < second.rank) ⊎ ((first.rank ≡ second.rank) × (first.number ≤ second.number))
