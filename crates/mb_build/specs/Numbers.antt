-- The numbers of senders (this project's own profile: in Akka a sender is a reference).
use Rattle.std.specs.Prelude.{ℕ, zero, suc, ◌+◌, List, [], ◌∷◌, ◌++◌}
use Rattle.mb_msg.specs.Limits.{most_actors}

-- So many numbers in order, from the first on.
abbrev pub numbers : ℕ → ℕ → List ℕ
numbers first zero = []
numbers first (suc count) = first ∷ numbers (first + 1) count

-- The numbers of the actors, and then those of the senders outside, which are numbered from the greatest number of actors on.
abbrev pub sender_numbers : ℕ → ℕ → List ℕ
sender_numbers actors outside = numbers 0 actors ++ numbers most_actors outside
