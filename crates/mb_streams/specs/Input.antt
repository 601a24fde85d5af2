-- What is read of an input (this project's own profile).
use Rattle.std.specs.Prelude.{◌≡◌, ℕ, ◌≤◌, Bool, IsTrue, List, length, take, Option, IfSome}
use Rattle.std.specs.Io.KnownBytes.{Consumes}
use Rattle.mb_scenario.specs.declared.read_error.ReadError.TheVariants.{NoMemory, NotToml, BadScenario}
use Rattle.mb_streams.specs.declared.program_error.ProgramError.{ProgramError}
use Rattle.mb_streams.specs.declared.program_error.ProgramError.TheVariants.{Os, Arguments, Run, Input}

-- how many bytes of the input are read at most: one more than a scenario may have
abbrev pub most_read : ℕ
most_read = 1048577

-- this text was read: where it is known which bytes the reader has, the first of them, as many as are read at most
abbrev pub IsRead : Option (List ℕ) → List ℕ → Type 0
IsRead known text = IfSome known (λ input. text ≡ take most_read input)

-- the reader lost some of its known bytes, from the front, and no more than are read at most
abbrev pub TakesAtMost : ℕ → Option (List ℕ) → Option (List ℕ) → Type 0
TakesAtMost most old new = (taken : List ℕ) × Consumes old new taken × (length taken ≤ most)

-- reading ended in this failure: the reader failed, or memory was refused and it did not
abbrev pub IsReadFailure : Bool → Bool → ProgramError → Type 0
IsReadFailure before after Os = IsTrue after
IsReadFailure before after Arguments = ⊥
IsReadFailure before after (Run fault) = ⊥
IsReadFailure before after (Input NoMemory) = after ≡ before
IsReadFailure before after (Input NotToml) = ⊥
IsReadFailure before after (Input (BadScenario place reason)) = ⊥
