-- Who may send to the actors of a system.
use Rattle.std.specs.Prelude.{ℕ, ◌+◌, ◌<◌, List, All, length}
use Rattle.mb_msg.specs.Limits.{most_actors}
use Rattle.mb_home.specs.Directory.{DirectoryEntry}

-- The number is of one of so many actors, or of one of so many senders outside, which are numbered from the greatest number of actors on.
abbrev pub IsKnown : ℕ → ℕ → ℕ → Type 0
IsKnown actors outside number = (number < most_actors → number < actors) × (number < most_actors + outside)

-- The queue of each actor in the directory has only such senders.
abbrev pub AreKnown : List DirectoryEntry → ℕ → Type 0
AreKnown directory outside = All (λ (e : DirectoryEntry). All (IsKnown (length directory) outside) e.queue.senders) directory
