-- What a call wrote, as far as the writer's bytes are known.
use Rattle.std.specs.Prelude.{ℕ, List, take, Option, Result, MatchResult}
use Rattle.std.specs.Io.KnownBytes.{Appends}

-- known bytes grow by a beginning of these
abbrev pub AppendsBeginning : Option (List ℕ) → Option (List ℕ) → List ℕ → Type 0
AppendsBeginning old new bytes = (n : ℕ) × Appends old new (take n bytes)

-- all these bytes were written where the call succeeded, and else a beginning of them
abbrev pub IsWritten : {T E : Type 0} → Option (List ℕ) → Option (List ℕ) → Result T E → List ℕ → Type 0
IsWritten old new result bytes = MatchResult result (λ _. Appends old new bytes) (λ _. AppendsBeginning old new bytes)
