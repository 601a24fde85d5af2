-- The passes of senders, handed out one queue after another (this project's own profile).
use Rattle.std.specs.Prelude.{ℕ, List, [], ◌∷◌, ◌++◌, map}
use Rattle.mb_queue.specs.Made.{unused}
use Rattle.mb_queue.specs.Passes.{SendPassView, TakePassView}

-- Each sender got one pass more.
abbrev pub handed : List (List SendPassView) → List SendPassView → List (List SendPassView)
handed [] sends = []
handed (row ∷ rows) [] = row ∷ rows
handed (row ∷ rows) (p ∷ sends) = (row ++ p ∷ []) ∷ handed rows sends

-- The unused passes of a sender into these queues.
abbrev pub passes_of : List TakePassView → ℕ → List SendPassView
passes_of takes sender = map (λ (t : TakePassView). unused t.queue sender) takes
