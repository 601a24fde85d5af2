-- What the check of a table knows of the rest of the document (this project's own profile).
use Rattle.std.specs.Prelude.{ℕ, ◌&&◌, Bool, List, map, take}
use Rattle.std.specs.List.{list_any}
use Rattle.std.specs.Str.{bytes_eq}
use Rattle.mb_schema.specs.declared.context.ActorEntry.{ActorEntry}
use Rattle.mb_schema.specs.declared.context.Context.{Context}

-- an actor of the document, by its name and its parent's
pub record ActorEntryData : Type 0 where
  pub name : List ℕ
  pub parent : List ℕ

-- an actor's name and parent, as contracts see them
abbrev pub actor_entry_data : ActorEntry → ActorEntryData
actor_entry_data actor_entries = record { name = actor_entries.name.now; parent = actor_entries.parent.now }

-- the actors; how many of them come before the one that is checked; and the name of that one
pub record ContextData : Type 0 where
  pub actor_entries : List ActorEntryData
  pub earlier : ℕ
  pub own_name : List ℕ

-- what a check knows of the rest of the document, as contracts see it
abbrev pub context_data : Context → ContextData
context_data context = record { actor_entries = map actor_entry_data context.actor_entries.now; earlier = context.earlier; own_name = context.own_name.now }

-- one of the actors has the name
abbrev pub knows : List ActorEntryData → List ℕ → Bool
knows actor_entries name = list_any (λ (k : ActorEntryData). bytes_eq k.name name) actor_entries

-- an actor before the one that is checked has the name
abbrev pub knows_earlier : ContextData → List ℕ → Bool
knows_earlier a name = knows (take a.earlier a.actor_entries) name

-- the name is that of a child of the one that is checked
abbrev pub knows_child : ContextData → List ℕ → Bool
knows_child a name = list_any (λ (k : ActorEntryData). bytes_eq k.name name && bytes_eq k.parent a.own_name) a.actor_entries
