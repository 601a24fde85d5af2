-- What is wrong with a document: the checks, in their order (this project's own profile).
use Rattle.std.specs.Prelude.{ℕ, ◌+◌, List, [], ◌∷◌, ◌++◌, map, codes, Bool, Option, Some, None, if◌then◌else◌}
use Rattle.std.specs.Prelude.{option_map, is_some}
use Rattle.std.specs.List.{list_any}
use Rattle.std.specs.Str.{bytes_eq}
use Rattle.toml.specs.Data.{Data, Items, no_items, item, Members, no_members, member, get_member, as_table, as_str}
use Rattle.mb_schema.specs.Context.{ContextData, ActorEntryData}
use Rattle.mb_schema.specs.Format.{KeyData, top_keys, name_key, other_actor_keys, actor_keys, send_keys, row_keys}
use Rattle.mb_schema.specs.Name.{is_name}
use Rattle.mb_schema.specs.Operation.{op_of, op_reason}
use Rattle.mb_schema.specs.Location.{FindingData, first, entry_text}
use Rattle.mb_schema.specs.Value.{items_of, key_reason, text_of, text_or}
use Rattle.mb_schema.specs.declared.entries.Part.{Part}
use Rattle.mb_schema.specs.declared.entries.Part.TheVariants.{Names, Actors, Sends}
use Rattle.mb_schema.specs.declared.finding.Reason.{Reason}
use Rattle.mb_schema.specs.declared.finding.Reason.TheVariants.{UnknownKey, WrongType}
use Rattle.mb_schema.specs.declared.form.Rows.{Rows as RowsType}
use Rattle.mb_schema.specs.declared.form.Form.{Form}
use Rattle.mb_schema.specs.declared.form.Form.TheVariants.{Rows, Operations}

-- in what follows `prefix` is what stands before the keys of a table, as it is printed

-- a check of each item of an array, by how many come before it
abbrev pub each_from : {A : Type 0} → ℕ → (ℕ → Data → A) → Items → List A
each_from earlier check no_items = []
each_from earlier check (item d ds) = check earlier d ∷ each_from (earlier + 1) check ds

-- a check of each item of an array, from the first on
abbrev pub each : {A : Type 0} → (ℕ → Data → A) → Items → List A
each check ds = each_from 0 check ds

-- a finding: where, and what is wrong there
abbrev pub at : List ℕ → Reason → FindingData
at place reason = record { place = place; reason = reason }

-- one of the keys has the name
abbrev pub has_key : List KeyData → List ℕ → Bool
has_key keys name = list_any (λ (key : KeyData). bytes_eq key.name name) keys

-- the least unknown key of a table, whose keys are in the order of their bytes
abbrev pub unknown_key : List KeyData → Members → Option (List ℕ)
unknown_key keys no_members = None
unknown_key keys (member name d ms) = if has_key keys name then unknown_key keys ms else Some name

-- a key as it is printed: itself, where it is a name
abbrev pub shown : List ℕ → List ℕ
shown name = if is_name name then name else codes "?"

-- the least unknown key of a table, if it has one
abbrev pub unknown_check : List ℕ → List KeyData → Members → Option FindingData
unknown_check prefix keys ms = option_map (λ name. at (prefix ++ shown name) UnknownKey) (unknown_key keys ms)

-- an operation of the array at a key; positions count from 1
abbrev pub op_check : ContextData → Bool → List ℕ → ℕ → Data → Option FindingData
op_check a adds before earlier d =
    option_map (at (entry_text before (earlier + 1))) (if is_some (as_str d) then op_reason a adds (op_of (text_of d)) else Some WrongType)

-- the operations of an array
abbrev pub ops_check : ContextData → List ℕ → Form → Option Data → Option FindingData
ops_check a before (Operations adds) (Some d) = first (each (op_check a adds before) (items_of d))
ops_check a before _ _ = None

-- a key that holds no tables to be checked: its value, and then its operations
abbrev pub key_check : List ℕ → ContextData → Members → KeyData → Option FindingData
key_check prefix a ms key = first (
    option_map (at (prefix ++ key.name)) (key_reason a ms key (get_member key.name ms))
    ∷ ops_check a (prefix ++ key.name) key.form (get_member key.name ms)
    ∷ [])

-- a table: the least unknown key, and then its keys in their order
abbrev pub table_check : List KeyData → List KeyData → List ℕ → ContextData → Members → Option FindingData
table_check known keys prefix a ms = first (unknown_check prefix known ms ∷ map (key_check prefix a ms) keys)

-- an entry of an array, which has to be a table
abbrev pub entry_check : (List ℕ → Members → Option FindingData) → List ℕ → ℕ → Option Members → Option FindingData
entry_check check before earlier None = Some (at (entry_text before (earlier + 1)) WrongType)
entry_check check before earlier (Some ms) = check (entry_text before (earlier + 1) ++ codes " ") ms

-- a table of an array within an actor
abbrev pub row_check : ContextData → RowsType → List ℕ → ℕ → Data → Option FindingData
row_check a rows before earlier d = entry_check (λ prefix ms. table_check (row_keys rows) (row_keys rows) prefix a ms) before earlier (as_table d)

-- the first finding in the rows of a key whose value is an array of tables
abbrev pub rows_check : ContextData → List ℕ → Form → Option Data → Option FindingData
rows_check a before (Rows rows) (Some d) =
    first (each (row_check a rows before) (items_of d))
rows_check a before _ _ = None

-- a key of an actor: its value and its operations, and then its tables
abbrev pub actor_key_check : List ℕ → ContextData → Members → KeyData → Option FindingData
actor_key_check prefix a ms key = first (key_check prefix a ms key ∷ rows_check a (prefix ++ key.name) key.form (get_member key.name ms) ∷ [])

-- the items of the array at a key, none where there is none
abbrev pub items_in : Option Data → Items
items_in None = no_items
items_in (Some d) = items_of d

-- an actor's name and parent: the texts at these keys; the parent is the guardian where none is named
abbrev pub actor_entry_of : Option Members → ActorEntryData
actor_entry_of None = record { name = []; parent = [] }
actor_entry_of (Some ms) = record { name = text_or [] (get_member (codes "name") ms); parent = text_or (codes "guardian") (get_member (codes "parent") ms) }

-- the names and parents of all actors, in order
abbrev pub actor_entries_of : Items → List ActorEntryData
actor_entries_of no_items = []
actor_entries_of (item d ds) = actor_entry_of (as_table d) ∷ actor_entries_of ds

-- the context in which an actor is checked, by how many come before it
abbrev pub context_of_actor : List ActorEntryData → ℕ → Data → ContextData
context_of_actor actor_entries earlier d = record { actor_entries = actor_entries; earlier = earlier; own_name = (actor_entry_of (as_table d)).name }

-- what the check of a send knows of the document: the actors
abbrev pub context_of_send : List ActorEntryData → ContextData
context_of_send actor_entries = record { actor_entries = actor_entries; earlier = 0; own_name = [] }

-- the first check of an actor: it is a table, and its name
abbrev pub name_check : List ActorEntryData → ℕ → Data → Option FindingData
name_check actor_entries earlier d =
    entry_check (λ prefix ms. key_check prefix (context_of_actor actor_entries earlier d) ms name_key) (codes "actor") earlier (as_table d)

-- the second: the least unknown key, and then the other keys
abbrev pub actor_table_check : ContextData → List ℕ → Members → Option FindingData
actor_table_check a prefix ms = first (unknown_check prefix actor_keys ms ∷ map (actor_key_check prefix a ms) other_actor_keys)

-- the first finding of one entry of `actor`, its name left out
abbrev pub actor_check : List ActorEntryData → ℕ → Data → Option FindingData
actor_check actor_entries earlier d = entry_check (actor_table_check (context_of_actor actor_entries earlier d)) (codes "actor") earlier (as_table d)

-- the first finding of one entry of `send`
abbrev pub send_check : List ActorEntryData → ℕ → Data → Option FindingData
send_check actor_entries earlier d =
    entry_check (λ prefix ms. table_check send_keys send_keys prefix (context_of_send actor_entries) ms) (codes "send") earlier (as_table d)

-- a part of an entry of an array, and the array
abbrev pub part_check : Part → List ActorEntryData → ℕ → Data → Option FindingData
part_check Names = name_check
part_check Actors = actor_check
part_check Sends = send_check

-- the name of the array whose entries are checked
abbrev pub array_of : Part → List ℕ
array_of Names = codes "actor"
array_of Actors = codes "actor"
array_of Sends = codes "send"

-- the document: its own keys; then the names of all actors; then all actors; then all sends
abbrev pub document_check : Members → Option FindingData
document_check top =
    let actors = items_in (get_member (codes "actor") top) in
    let sends = items_in (get_member (codes "send") top) in
    let actor_entries = actor_entries_of actors in
    first (
    table_check top_keys top_keys [] (context_of_send []) top
    ∷ first (each (name_check actor_entries) actors)
    ∷ first (each (actor_check actor_entries) actors)
    ∷ first (each (send_check actor_entries) sends)
    ∷ [])
