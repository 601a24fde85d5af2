-- The ghost history of an actor's calls (this project's own profile).
use Rattle.std.specs.Prelude.{List, [], ◌∷◌}
use Rattle.mb_actor.specs.declared.call.Call.{Call}
use Rattle.mb_actor.specs.declared.history.CallList.{CallList, Nothing, Then'}

-- the calls, the newest first
abbrev pub calls_of : CallList → List Call
calls_of Nothing = []
calls_of (Then' marker past call) = call ∷ calls_of past
