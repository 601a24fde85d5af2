-- Lists of actors without repetition.
use Rattle.std.specs.Prelude.{not, if◌then◌else◌, List, [], ◌∷◌, ◌++◌, filter}
use Rattle.mb_msg.specs.declared.id.ActorId.{ActorId}
use Rattle.mb_actor.specs.ActorList.{is_same, has}

-- the list without the actor
abbrev pub without : List ActorId → ActorId → List ActorId
without list a = filter (λ b. not (is_same a b)) list

-- the list with the actor, which joins at the end unless it is there
abbrev pub joined : List ActorId → ActorId → List ActorId
joined list a = if has list a then list else list ++ a ∷ []
