-- The errors of reading a scenario, as they are printed (this project's own profile: Akka has no such program).
use Rattle.std.specs.Prelude.{ℕ, List, ◌++◌, codes, string_bytes}
use Rattle.mb_schema.specs.Location.{reason_text}
use Rattle.mb_scenario.specs.declared.read_error.ReadError.{ReadError}
use Rattle.mb_scenario.specs.declared.read_error.ReadError.TheVariants.{NoMemory, NotToml, BadScenario}

-- an error as it is printed: its number, its name, and what is wrong where
abbrev pub read_error_text : ReadError → List ℕ
read_error_text NoMemory = codes "1 NoMemory"
read_error_text NotToml = codes "11 NotToml"
read_error_text (BadScenario place reason) = codes "12 BadScenario " ++ string_bytes place ++ codes ": " ++ reason_text reason
