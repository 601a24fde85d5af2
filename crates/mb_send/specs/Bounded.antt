-- Whose queue a sender may have found full (this project's own profile: Akka's dead letters give no reason).
use Rattle.std.specs.Prelude.{ℕ, zero, suc, Bool, true, false, List, Option, None, Some, is_some, slice_get}
use Rattle.std.specs.List.{list_all}
use Rattle.mb_msg.specs.declared.dead_letter.DeadLetter.{DeadLetter}
use Rattle.mb_msg.specs.declared.dead_letter.DeadLetterReason.{DeadLetterReason}
use Rattle.mb_msg.specs.declared.dead_letter.DeadLetterReason.TheVariants as why
use Rattle.mb_queue.specs.Passes.{Queue}

-- The queue of the receiver of this number, where these are the queues of all receivers in the order of their numbers, from 1 on.
abbrev pub queue_to : List Queue → ℕ → Option Queue
queue_to queues zero = None
queue_to queues (suc place) = slice_get queues place

-- An envelope to this queue, if there is one, may be a dead letter for this reason: as full only if the queue has a bound.
abbrev pub may_be_refused : Option Queue → DeadLetterReason → Bool
may_be_refused None w = false
may_be_refused (Some queue) why.Full = is_some queue.main.capacity
may_be_refused (Some queue) why.Closed = true
may_be_refused (Some queue) why.NoMemory = true
may_be_refused (Some queue) why.Cleaned = true

-- Each of these dead letters is to a receiver that exists. If it says that its receiver's queue was full, that queue has a bound.
abbrev pub are_of_bounded : List Queue → List DeadLetter → Bool
are_of_bounded queues dead = list_all (λ (d : DeadLetter). may_be_refused (queue_to queues d.envelope.to.0) d.why) dead
