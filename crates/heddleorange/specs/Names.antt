-- Names of actors beside their numbers (this project's own profile: in Akka a name is an actor's own among its siblings).
use Rattle.std.specs.Prelude.{ℕ, List, ◌∷◌, ◌++◌, codes, map, Option, String, string_bytes}
use Rattle.std.specs.Fmt.{decimal}
use Rattle.std.specs.Global.{Global}
use Rattle.std.specs.List.{position_from}
use Rattle.std.specs.Str.{bytes_eq}

-- These as texts.
abbrev pub texts_of : List (String Global) → List (List ℕ)
texts_of = map string_bytes

-- The names of all actors in the order of their numbers: the guardian's, and these of the others.
abbrev pub names_by_number : List (String Global) → List (List ℕ)
names_by_number names = codes "guardian" ∷ texts_of names

-- The number of the first actor of this name.
abbrev pub number_of : List (String Global) → List ℕ → Option ℕ
number_of names name = position_from (bytes_eq name) 0 (names_by_number names)

-- The name of an actor of this number that was added without one. (Akka, too, makes such names of a `$` and a number.)
abbrev pub name_by_default : ℕ → List ℕ
name_by_default number = codes "$" ++ decimal number
