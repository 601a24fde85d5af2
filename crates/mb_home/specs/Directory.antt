-- The directory of a system's actors: who each is, which queue it has, and the discipline of that (this project's own profile: in Akka a
-- reference leads to its mailbox).
use Rattle.std.specs.Prelude.{◌≡◌, ℕ, List, map, slice_get, Some, IsSome}
use Rattle.mb_journal.specs.Identity.{Identity}
use Rattle.mb_queue.specs.Passes.{Queue, Discipline}

-- One actor: who it is, its queue, and the discipline by which the queue is taken from.
pub record DirectoryEntry : Type 0 where
  pub who : Identity
  pub queue : Queue
  pub discipline : Discipline

-- The queues of all actors, by number.
abbrev pub queues_of : List DirectoryEntry → List Queue
queues_of = map (λ (n : DirectoryEntry). n.queue)

-- The actor of this number has a queue with a bound.
pub record IsBounded (directory : List DirectoryEntry) (actor : ℕ) : Type 0 where
  pub queue : Queue
  pub present : slice_get (queues_of directory) actor ≡ Some queue
  pub bounded : IsSome queue.main.capacity
