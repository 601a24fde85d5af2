-- The worked documents: what is found in each is computed from the definition.
use Rattle.std.proofs.Common.{◌≡◌, ℕ, List, [], ◌∷◌, ◌++◌, codes, Option, Some, None, option_map, refl}
use Rattle.std.specs.Fmt.{digits}
use Rattle.toml.proofs.OnLiterals.{toml_on_literals}
use Rattle.toml.specs.Parse.{parse_document}
use Rattle.mb_schema.specs.Check.{document_check}
use Rattle.mb_schema.specs.Location.{FindingData}
use Rattle.mb_schema.specs.declared.finding.Reason.{Reason}
use Rattle.mb_schema.specs.declared.finding.Reason.TheVariants.{UnknownKey, WrongType, OutOfRange, TooMany, UnknownName, RepeatedName, BadOp}

-- what is found in a text that is a document
abbrev found_in : List ℕ → Option (Option FindingData)
found_in text = option_map document_check (parse_document text)

abbrev fault : List ℕ → Reason → Option (Option FindingData)
fault place reason = Some (Some (record { place = place; reason = reason }))

unknown_top : found_in (codes "x = 1\n") ≡ fault (codes "x") UnknownKey
unfolding toml_on_literals digits
unknown_top = refl

unknown_unnamed : found_in (codes "X = 1\n") ≡ fault (codes "?") UnknownKey
unfolding toml_on_literals digits
unknown_unnamed = refl

workers_text : found_in (codes "workers = \"1\"\n") ≡ fault (codes "workers") WrongType
unfolding toml_on_literals digits
workers_text = refl

workers_many : found_in (codes "workers = 17\n") ≡ fault (codes "workers") OutOfRange
unfolding toml_on_literals digits
workers_many = refl

name_twice : found_in (codes "[[actor]]\nname = \"a\"\n[[actor]]\nname = \"a\"\n") ≡ fault (codes "actor 2 name") RepeatedName
unfolding toml_on_literals digits
name_twice = refl

parent_unknown : found_in (codes "[[actor]]\nname = \"a\"\nparent = \"x\"\n") ≡ fault (codes "actor 1 parent") UnknownName
unfolding toml_on_literals digits
parent_unknown = refl

parent_later : found_in (codes "[[actor]]\nname = \"a\"\nparent = \"b\"\n[[actor]]\nname = \"b\"\nparent = \"a\"\n")
    ≡ fault (codes "actor 1 parent") UnknownName
unfolding toml_on_literals digits
parent_later = refl

capacity_zero : found_in (codes "[[actor]]\nname = \"a\"\nmailbox = \"bounded\"\ncapacity = 0\n") ≡ fault (codes "actor 1 capacity") OutOfRange
unfolding toml_on_literals digits
capacity_zero = refl

-- an actor that adds up three sends: with this operation, and with these keys of its first send
abbrev counter : List ℕ → List ℕ → List ℕ
counter operation times = codes "workers = 0\n[[actor]]\nname = \"a\"\n[[actor.on]]\nkind = 1\ndo = [\"" ++ operation ++ codes "\"]\n"
    ++ codes "[[send]]\nto = \"a\"\nkind = 1\nvalue = 1\n" ++ times
    ++ codes "[[send]]\nto = \"a\"\nkind = 1\nvalue = 2\n[[send]]\nto = \"a\"\nkind = 1\nvalue = 3\n"

add_with_a_number : found_in (counter (codes "add 1") []) ≡ fault (codes "actor 1 on 1 do 1") BadOp
unfolding toml_on_literals digits
add_with_a_number = refl

times_zero : found_in (counter (codes "add") (codes "times = 0\n")) ≡ fault (codes "send 1 times") OutOfRange
unfolding toml_on_literals digits
times_zero = refl

no_document : found_in (codes "[[actor") ≡ None
unfolding toml_on_literals digits
no_document = refl

-- the byte FF, which is no text
no_text : found_in (255 ∷ []) ≡ None
unfolding toml_on_literals digits
no_text = refl

-- a document in which nothing is wrong
nothing_wrong : found_in (counter (codes "add") []) ≡ Some None
unfolding toml_on_literals digits
nothing_wrong = refl

-- 64 actors
actors_many : found_in (codes "actor=[{},{},{},{},{},{},{},{},{},{},{},{},{},{},{},{},{},{},{},{},{},{},{},{},{},{},{},{},{},{},{},{},"
    ++ codes "{},{},{},{},{},{},{},{},{},{},{},{},{},{},{},{},{},{},{},{},{},{},{},{},{},{},{},{},{},{},{},{}]\n")
    ≡ fault (codes "actor") TooMany
unfolding toml_on_literals digits
actors_many = refl
