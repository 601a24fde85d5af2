-- What the keys of a document that passes all checks say (this project's own profile).
use Rattle.std.specs.Prelude.{ℕ, ℤ, pos, ◌+◌, ◌^◌, List, [], ◌∷◌, Bool, false, nat_lt, Option, Some, None}
use Rattle.std.specs.Prelude.{if◌then◌else◌, unwrap_or}
use Rattle.std.specs.Prelude.{option_and_then}
use Rattle.std.specs.Str.{bytes_eq}
use Rattle.toml.specs.Data.{Data, Items, no_items, item, get_member, as_table, as_integer, as_bool}
use Rattle.mb_schema.specs.Context.{ActorEntryData}
use Rattle.mb_msg.specs.declared.id.ActorId.{ActorId}

-- the value at a key of a table
abbrev pub field : List ℕ → Data → Option Data
field key d = option_and_then (get_member key) (as_table d)

-- a number of 32 bits
abbrev pub small : ℕ → ℕ
small n = if nat_lt n (2 ^ 32) then n else 0

-- a number of 16 bits
abbrev pub short : ℕ → ℕ
short n = if nat_lt n (2 ^ 16) then n else 0

-- the number that an integer is, which a checked document keeps within 32 bits
abbrev pub number_of_integer : Option ℤ → ℕ
number_of_integer (Some (pos n)) = small n
number_of_integer _ = 0

-- the number of a key, or its default
abbrev pub number_or : ℕ → Option Data → ℕ
number_or default None = default
number_or default (Some d) = number_of_integer (as_integer d)

-- the integer of a key, or its default
abbrev pub integer_or : ℤ → Option Data → ℤ
integer_or default None = default
integer_or default (Some d) = unwrap_or (as_integer d) (pos 0)

-- the boolean of a key, or its default
abbrev pub truth_or : Bool → Option Data → Bool
truth_or default None = default
truth_or default (Some d) = unwrap_or (as_bool d) false

-- what each item is read as, in order
abbrev pub map_items : {A : Type 0} → (Data → A) → Items → List A
map_items f no_items = []
map_items f (item d ds) = f d ∷ map_items f ds

-- the number of the first actor of a name, where numbers count on from this one; 0, the guardian's, where none has it
abbrev pub number_from : ℕ → List ActorEntryData → List ℕ → ℕ
number_from n [] name = 0
number_from n (k ∷ actor_entries) name = if bytes_eq k.name name then short n else number_from (n + 1) actor_entries name

-- the actor of a name; the guardian where no actor has it
abbrev pub id_of : List ActorEntryData → List ℕ → ActorId
id_of actor_entries name = record { 0 = number_from 1 actor_entries name }
