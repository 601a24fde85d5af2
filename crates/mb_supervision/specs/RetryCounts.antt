-- How often restarts of children were requested, as a cell counts them (`akka.actor.ChildRestartStats`).
use Rattle.std.specs.Prelude.{ℕ, ◌+◌, ℤ, if◌then◌else◌, List, [], ◌∷◌}
use Rattle.mb_msg.specs.declared.id.ActorId.{ActorId}
use Rattle.mb_actor.specs.ActorList.{is_same}
use Rattle.mb_journal.specs.Retries.{counted_from, times_in}

-- the count of a child, where each child stands with its own; a child that does not stand there has 0
abbrev pub retry_count_of : List (ActorId × ℕ) → ActorId → ℕ
retry_count_of [] y = 0
retry_count_of (r ∷ counts) y = if is_same y r.0 then r.1 else retry_count_of counts y

-- the counts after these requests: one more for each, where there is a limit above 0
abbrev pub counted_more : ℤ → List ActorId → (ActorId → ℕ) → ActorId → ℕ
counted_more limit asked counts = λ y. counts y + counted_from limit (times_in asked y)
