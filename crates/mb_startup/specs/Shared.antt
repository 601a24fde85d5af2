-- Who has which share of the gates of a new system (this project's own profile).
use Rattle.std.specs.Prelude.{ℕ, List, ◌++◌}
use Rattle.mb_ghost.specs.Shares.{IsWhole}

-- A pass had the first share and has the second, and these were split off it: if it was the whole with what others have, it is so with theirs and
-- these.
abbrev pub KeepsWhole : List ℕ → List ℕ → List ℕ → Type 0
KeepsWhole before after given = (others : List ℕ) → IsWhole (before ++ others) → IsWhole (after ++ (given ++ others))
