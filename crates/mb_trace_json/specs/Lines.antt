-- The printed lines of JSON (this project's own profile).
use Rattle.std.specs.Prelude.{◌≡◌, ℕ, List, ◌++◌, codes, Some}
use Rattle.serde_json.specs.Data.{Data}
use Rattle.serde_json.specs.Read.{read}
use Rattle.serde_json.specs.Written.{compact_text}

-- The line of a value: its text with no space between its parts, and the end of the line.
abbrev pub line_text : Data → List ℕ
line_text d = compact_text d ++ codes "\n"

-- What stands before the end of this line reads, as JSON, as this value.
abbrev pub ReadsAs : List ℕ → Data → Type 0
ReadsAs line d = (text : List ℕ) → line ≡ text ++ codes "\n" → read text ≡ Some d
