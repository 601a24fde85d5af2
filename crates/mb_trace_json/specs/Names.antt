-- The names of actors and senders in JSON (this project's own profile).
use Rattle.std.specs.Prelude.{ℕ, ◌-◌, nat_lt, if◌then◌else◌, List, ◌∷◌, ◌++◌, codes, slice_index_or}
use Rattle.std.specs.Fmt.{decimal}
use Rattle.serde_json.specs.Data.{Data, string}
use Rattle.mb_msg.specs.Limits.{most_actors}

-- The name of the actor of this number, where the actors beside the guardian have these names; a question mark where there is none.
abbrev pub name_of : List (List ℕ) → ℕ → List ℕ
name_of names id = slice_index_or (codes "guardian" ∷ names) id (codes "?")

-- An actor or a sender: an actor by its name, and one outside the actors by its number among those.
abbrev pub name_data : List (List ℕ) → ℕ → Data
name_data names id = string (if nat_lt id most_actors then name_of names id else codes "outside " ++ decimal (id - most_actors))
