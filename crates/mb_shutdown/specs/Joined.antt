-- Receivers that have taken in the passes of senders.
use Rattle.std.specs.Prelude.{◌≡◌, ◌≢◌, ℕ, List, [], ◌∷◌, ◌++◌, All, Contains, map, option_to_list, slice_get, slice_set, Some}
use Rattle.mb_queue.specs.Ledger.{home}
use Rattle.mb_queue.specs.Passes.{Queue, SendPassView, TakePassView}

-- The queues that these passes take from.
abbrev pub queues_of : List TakePassView → List Queue
queues_of = map (λ (t : TakePassView). t.queue)

-- The queues that these passes push into, in order.
abbrev pub queues_pushed_into : List SendPassView → List Queue
queues_pushed_into = map (λ (p : SendPassView). p.queue)

-- The receiver once it took in the sender's pass: it knows what the sender pushed.
abbrev pub joined : TakePassView → SendPassView → TakePassView
joined t p = record t { accounts = t.accounts ++ home p.by p.pushed ∷ [] }

-- The receiver at this place took in the pass, and nothing else changed.
pub record JoinsAt (old new : List TakePassView) (place : ℕ) (p : SendPassView) : Type 0 where
  pub take : TakePassView
  pub was : slice_get old place ≡ Some take
  pub same : new ≡ slice_set old place (joined take p)

-- Each receiver took in the sender's pass to it, in their order.
abbrev pub joins : List TakePassView → List SendPassView → List TakePassView
joins [] passes = []
joins (t ∷ takes) [] = t ∷ takes
joins (t ∷ takes) (p ∷ passes) = joined t p ∷ joins takes passes

-- Each receiver took in the passes of all these senders.
abbrev pub joins_all : List TakePassView → List (List SendPassView) → List TakePassView
joins_all takes [] = takes
joins_all takes (row ∷ rows) = joins_all (joins takes row) rows

-- The passes of these senders to the receiver at this place.
abbrev pub column : ℕ → List (List SendPassView) → List SendPassView
column place [] = []
column place (row ∷ rows) = option_to_list (slice_get row place) ++ column place rows

-- One receiver that took in all of these passes.
abbrev pub joined_by : TakePassView → List SendPassView → TakePassView
joined_by t [] = t
joined_by t (p ∷ passes) = joined_by (joined t p) passes

-- The passes are of different senders.
abbrev pub AreOfDifferent : List SendPassView → Type 0
AreOfDifferent [] = Unit {0}
AreOfDifferent (p ∷ passes) = All (λ (q : SendPassView). q.by ≢ p.by) passes × AreOfDifferent passes

-- Each sender of the queue has a pass among these.
abbrev pub AreOfAllSenders : Queue → List SendPassView → Type 0
AreOfAllSenders queue passes = All (λ sender. Contains (map (λ (p : SendPassView). p.by) passes) sender) queue.senders
