-- What is printed of a failure (this project's own profile).
use Rattle.std.specs.Prelude.{◌≡◌, ℕ, Bool, false, ◌⊎◌, List, Option}
use Rattle.std.specs.Io.KnownBytes.{Appends}
use Rattle.mb_scenario.specs.declared.read_error.ReadError.TheVariants.{NoMemory}
use Rattle.mb_streams.specs.ProgramError.{error_line, exit_status}
use Rattle.mb_streams.specs.Written.{AppendsBeginning}
use Rattle.mb_streams.specs.declared.program_error.ProgramError.{ProgramError}
use Rattle.mb_streams.specs.declared.program_error.ProgramError.TheVariants.{Os, Arguments, Run, Input}
use Rattle.mb_streams.specs.declared.fault.RunFault.TheVariants as run

-- the line was printed: a prefix of it, and the whole line unless writing it failed
abbrev pub IsLineSaid : Option (List ℕ) → Option (List ℕ) → Bool → List ℕ → Type 0
IsLineSaid old new failed line = AppendsBeginning old new line × (failed ≡ false → Appends old new line)

-- what is printed of a failure: its line; or, where memory for that was refused, the line of that
abbrev pub IsSaidFor : ProgramError → ProgramError → Type 0
IsSaidFor Os said = said ≡ Os
IsSaidFor Arguments said = said ≡ Arguments
IsSaidFor (Run run.NoMemory) said = said ≡ Run run.NoMemory
IsSaidFor (Run run.JournalFull) said = said ≡ Run run.JournalFull
IsSaidFor (Run run.Mismatch) said = said ≡ Run run.Mismatch
IsSaidFor (Input fault) said = (said ≡ Input fault) ⊎ (said ≡ Input NoMemory)

-- where this failure was met its line was said, or that of want of memory, and this is the status of what was said
abbrev pub IsRefusal : ProgramError → ℕ → Option (List ℕ) → Option (List ℕ) → Bool → Type 0
IsRefusal failure result old new failed =
    (said : ProgramError) × IsSaidFor failure said × (result ≡ exit_status said) × IsLineSaid old new failed (error_line said)
