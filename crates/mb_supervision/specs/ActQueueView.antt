-- A queue of acts, as contracts see it.
use Rattle.std.specs.Prelude.{ℕ, List}
use Rattle.mb_journal.specs.Acts.{Act}

-- the acts that are to be carried out, in order, and how many more there is room for (this project's own profile: Akka acts
-- at once)
pub record ActQueueView : Type 0 where
  pub acts : List Act
  pub room : ℕ
