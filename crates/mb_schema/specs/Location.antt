-- What is wrong and where, as it is printed (this project's own profile).
use Rattle.std.specs.Prelude.{◌≡◌, ℕ, List, [], ◌∷◌, ◌++◌, codes, Bool, true, false, Option, Some, None, Result, Ok, Err}
use Rattle.std.specs.Fmt.{decimal}
use Rattle.mb_schema.specs.declared.path.Path.{Path}
use Rattle.mb_schema.specs.declared.path.Path.TheVariants.{Top, Actor, Send, Row}
use Rattle.mb_schema.specs.declared.finding.Finding.{Finding}
use Rattle.mb_schema.specs.declared.finding.Location.{Location}
use Rattle.mb_schema.specs.declared.finding.Location.TheVariants as place
use Rattle.mb_schema.specs.declared.finding.Reason.{Reason}
use Rattle.mb_schema.specs.declared.finding.Reason.TheVariants.{UnknownKey, Missing, WrongType, NotAllowed, OutOfRange, TooMany, UnknownName}
use Rattle.mb_schema.specs.declared.finding.Reason.TheVariants.{RepeatedName, BadOp}

-- a position in an array, as it is printed
abbrev pub entry_text : List ℕ → ℕ → List ℕ
entry_text name position = name ++ codes " " ++ decimal position

-- what stands before the keys of a table
abbrev pub path_text : Path → List ℕ
path_text Top = []
path_text (Actor position) = entry_text (codes "actor") position ++ codes " "
path_text (Send position) = entry_text (codes "send") position ++ codes " "
path_text (Row actor name position) = entry_text (entry_text (codes "actor") actor ++ codes " " ++ name.now) position ++ codes " "

-- a place as it is printed
abbrev pub location_text : Location → List ℕ
location_text (place.KeySchema path key) = path_text path ++ key.now
location_text (place.Unnamed path) = path_text path ++ codes "?"
location_text (place.Entry path name position) = entry_text (path_text path ++ name.now) position

-- a reason as it is printed
abbrev pub reason_text : Reason → List ℕ
reason_text UnknownKey = codes "unknown key"
reason_text Missing = codes "missing"
reason_text WrongType = codes "wrong type"
reason_text NotAllowed = codes "not allowed"
reason_text OutOfRange = codes "out of range"
reason_text TooMany = codes "too many"
reason_text UnknownName = codes "unknown name"
reason_text RepeatedName = codes "repeated name"
reason_text BadOp = codes "bad op"

-- what is wrong, and where
pub record FindingData : Type 0 where
  pub place : List ℕ
  pub reason : Reason

-- the place and the reason of what was found
abbrev pub fault_of : Finding → FindingData
fault_of finding = record { place = location_text finding.place; reason = finding.reason }

-- the first of a list of checks that finds something
abbrev pub first : {A : Type 0} → List (Option A) → Option A
first [] = None
first (None ∷ checks) = first checks
first (Some fault ∷ checks) = Some fault

-- this, where the test holds
abbrev pub when : {A : Type 0} → Bool → A → Option A
when true x = Some x
when false x = None

-- the answer is what the checks find
abbrev pub Finds : Result (Unit {0}) Finding → Option FindingData → Type 0
Finds (Ok done) found = found ≡ None
Finds (Err finding) found = found ≡ Some (fault_of finding)
