-- The limit of a scenario's text (this project's own profile).
use Rattle.std.specs.Prelude.{ℕ}

-- how many bytes a text has at most
abbrev pub most_bytes : ℕ
most_bytes = 1048576
