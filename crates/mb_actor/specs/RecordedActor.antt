-- An actor with the calls that were made of it (this project's own profile).
use Rattle.std.specs.Prelude.{List}
use Rattle.mb_actor.specs.declared.call.Call.{Call}

-- the actor, and the calls that were made of it, the newest first
pub record RecordedActor (A : Type 0) : Type 0 where
  pub actor : A
  pub calls : List Call
