-- The version of the lines of JSON (this project's own profile).
use Rattle.serde_json.specs.Data.{Data, number, unsigned}

-- The version of the form, which each line has. It grows where a reader of an earlier form could not read the lines any more.
abbrev pub version_data : Data
version_data = number (unsigned 1)
