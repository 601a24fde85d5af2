-- What a text is read as, and which error it gives (this project's own profile).
use Rattle.std.specs.Prelude.{◌≡◌, ℕ, ◌<◌, ◌≤◌, List, length, codes, Option, Some, None, IsUtf8, string_bytes}
use Rattle.toml.specs.Data.{Members}
use Rattle.toml.specs.Parse.{parse_document}
use Rattle.mb_schema.specs.Check.{document_check}
use Rattle.mb_schema.specs.Location.{FindingData as Found}
use Rattle.mb_schema.specs.declared.finding.Reason.TheVariants.{TooMany}
use Rattle.mb_scenario.specs.Limits.{most_bytes}
use Rattle.mb_scenario.specs.Plans.{ScenarioData, scenario_of}
use Rattle.mb_scenario.specs.declared.read_error.ReadError.{ReadError}
use Rattle.mb_scenario.specs.declared.read_error.ReadError.TheVariants.{NoMemory, NotToml, BadScenario}

-- the document passes all checks and is this scenario
abbrev pub IsScenario : Members → ScenarioData → Type 0
IsScenario top scenario = (document_check top ≡ None) × (scenario ≡ scenario_of top)

-- the error is what was found, unless memory was refused
abbrev pub Tells : ReadError → Option Found → Type 0
Tells NoMemory found = Unit {0}
Tells NotToml found = ⊥
Tells (BadScenario place reason) found = found ≡ Some (record { place = string_bytes place; reason = reason })

-- the text is within the limit, and this document
pub record IsText (text : List ℕ) (document : Members) : Type 0 where
  pub short : length text ≤ most_bytes
  pub utf8 : IsUtf8 text
  pub parsed : parse_document text ≡ Some document

-- the text is a document that is this scenario
abbrev pub IsReadAs : List ℕ → ScenarioData → Type 0
IsReadAs text scenario = (document : Members) × IsText text document × IsScenario document scenario

-- what is found in a text: of one that is too long only that; of a document the first check that fails
pub data Finds (text : List ℕ) (found : Found) : Type 0 where
  too_long : most_bytes < length text → found ≡ record { place = codes "input"; reason = TooMany } → Finds text found
  in_document : (document : Members) → IsText text document → document_check document ≡ Some found → Finds text found

-- what holds of a text where reading it gives this error
abbrev pub Refuses : List ℕ → ReadError → Type 0
Refuses text NoMemory = Unit {0}
Refuses text NotToml = (length text ≤ most_bytes) × (IsUtf8 text → parse_document text ≡ None)
Refuses text (BadScenario place reason) = Finds text (record { place = string_bytes place; reason = reason })
