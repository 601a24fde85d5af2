-- Lists of actors, by their numbers.
use Rattle.std.specs.Prelude.{◌==◌, Bool, List}
use Rattle.std.specs.List.{list_any}
use Rattle.mb_msg.specs.declared.id.ActorId.{ActorId}

-- two numbers name the same actor
abbrev pub is_same : ActorId → ActorId → Bool
is_same a b = a.0 == b.0

-- the actor is in the list
abbrev pub has : List ActorId → ActorId → Bool
has list a = list_any (is_same a) list
