-- Why the program ends without a report, and the line and status for that (this project's own profile: Akka has no such
-- program).
use Rattle.std.specs.Prelude.{ℕ, List, ◌++◌, codes}
use Rattle.mb_scenario.specs.ReadError.{read_error_text}
use Rattle.mb_scenario.specs.declared.read_error.ReadError.TheVariants.{NoMemory, NotToml, BadScenario}
use Rattle.mb_streams.specs.declared.program_error.ProgramError.{ProgramError}
use Rattle.mb_streams.specs.declared.fault.RunFault.{RunFault}
use Rattle.mb_streams.specs.declared.fault.RunFault.TheVariants as run
use Rattle.mb_streams.specs.declared.program_error.ProgramError.TheVariants.{Os, Arguments, Run, Input}

-- the exit status: 2 where what the program was given is wrong, else 1
abbrev pub exit_status : ProgramError → ℕ
exit_status Os = 1
exit_status Arguments = 2
exit_status (Run fault) = 1
exit_status (Input NoMemory) = 1
exit_status (Input NotToml) = 2
exit_status (Input (BadScenario place reason)) = 2

-- a fault of a run as it is printed: its number, and its name
abbrev pub run_fault_text : RunFault → List ℕ
run_fault_text run.NoMemory = codes "1 NoMemory"
run_fault_text run.JournalFull = codes "6 JournalFull"
run_fault_text run.Mismatch = codes "10 Mismatch"

-- a failure as it is printed: its number, its name, and what is wrong where
abbrev pub failure_text : ProgramError → List ℕ
failure_text Os = codes "2 Os"
failure_text Arguments = codes "12 BadScenario arguments: too many"
failure_text (Run fault) = run_fault_text fault
failure_text (Input fault) = read_error_text fault

-- the line that the program writes of a failure
abbrev pub error_line : ProgramError → List ℕ
error_line failure = codes "mailrun: " ++ failure_text failure ++ codes "\n"
