-- A text that is a scenario is not at fault.
use Rattle.std.proofs.Common.{◌≡◌, ℕ, List, arith}
use Rattle.mb_scenario.specs.Plans.{ScenarioData}
use Rattle.mb_scenario.specs.Reading.{Finds, IsReadAs, too_long, in_document}
use Rattle.mb_scenario.specs.declared.read_error.ReadError.TheVariants.{NoMemory, NotToml, BadScenario}
use Rattle.mb_schema.specs.Location.{FindingData as Found}
use Rattle.mb_program.specs.Answer.{IsRefused}
use Rattle.mb_streams.specs.ProgramError.{exit_status}
use Rattle.mb_streams.specs.declared.program_error.ProgramError.{ProgramError}
use Rattle.mb_streams.specs.declared.program_error.ProgramError.TheVariants.{Os, Arguments, Run, Input}

nothing_found : (text : List ℕ) (scenario : ScenarioData) (found : Found) → IsReadAs text scenario → Finds text found → ⊥
nothing_found text scenario found read (too_long long is) = let short = read.1.short in omega arith
nothing_found text scenario found read (in_document document is_text fails) =
    let one = read.1.parsed in
    let other = is_text.parsed in
    let passes = read.2.0 in
    cc

pub read_not_refused : (text : List ℕ) (scenario : ScenarioData) (failure : ProgramError) → IsReadAs text scenario → IsRefused text failure
    → exit_status failure ≡ 2 → ⊥
read_not_refused text scenario Os read refused status = refused
read_not_refused text scenario Arguments read refused status = refused
read_not_refused text scenario (Run fault) read refused status = cc
read_not_refused text scenario (Input NoMemory) read refused status = cc
read_not_refused text scenario (Input NotToml) read refused status = let none = refused.1 read.1.utf8 in let some = read.1.parsed in cc
read_not_refused text scenario (Input (BadScenario place reason)) read refused status = nothing_found text scenario _ read refused
