-- What contracts see of a stream whose calls are watched.
use Rattle.std.specs.Prelude.{Bool}

-- a stream, and whether a call of it has failed
pub record Watching (S : Type 0) : Type 0 where
  pub stream : S
  pub failed : Bool
