-- What the program answers to its input (this project's own profile).
use Rattle.std.specs.Prelude.{◌≡◌, ℕ, ◌<◌, Bool, false, IsTrue, List, Option}
use Rattle.std.specs.Io.KnownBytes.{Appends}
use Rattle.mb_scenario.specs.Plans.{ScenarioData}
use Rattle.mb_scenario.specs.Reading.{IsReadAs, Refuses}
use Rattle.mb_scenario.specs.declared.read_error.ReadError.TheVariants.{NoMemory, NotToml, BadScenario}
use Rattle.mb_msg.specs.JournalMode.{retention_of}
use Rattle.mb_msg.specs.declared.journal_mode.JournalMode.{JournalMode}
use Rattle.mb_report.specs.Keeps.{Keeps}
use Rattle.mb_report.specs.Lines.{report_text_of}
use Rattle.mb_report.specs.declared.report.Report.{Report}
use Rattle.mb_streams.specs.declared.fault.RunFault.{RunFault}
use Rattle.mb_streams.specs.ProgramError.{exit_status}
use Rattle.mb_streams.specs.Input.{IsRead}
use Rattle.mb_streams.specs.Tracking.{Watching}
use Rattle.mb_streams.specs.Written.{AppendsBeginning}
use Rattle.mb_streams.specs.declared.program_error.ProgramError.{ProgramError}
use Rattle.mb_streams.specs.declared.program_error.ProgramError.TheVariants.{Os, Arguments, Run, Input}
use Rattle.mb_program.specs.Scenario.{EndsIn, IsOfScenario}

-- These bytes are the text of the report of a run of the scenario, which keeps all entries, all that was cleaned up and all dead letters exactly where the
-- mode says so.
pub record IsTextOfRun (journal : JournalMode) (scenario : ScenarioData) (bytes : List ℕ) : Type 0 where
  pub report : Report
  pub ran : IsOfScenario scenario report
  pub keeps : Keeps (retention_of journal) report
  pub text : bytes ≡ report_text_of scenario.names report

-- The text is a scenario, and this is the report of a run of it with such journals.
abbrev pub IsReport : JournalMode → List ℕ → List ℕ → Type 0
IsReport journal text report = (scenario : ScenarioData) × IsReadAs text scenario × IsTextOfRun journal scenario report

-- The text is a scenario, and a run of it ended in this fault.
abbrev pub HasNoReport : List ℕ → RunFault → Type 0
HasNoReport text fault = (scenario : ScenarioData) × IsReadAs text scenario × EndsIn scenario fault

-- This is why the text has no report: it is no scenario; or it is one, and its run failed. Of refused memory nothing can be said.
abbrev pub IsRefused : List ℕ → ProgramError → Type 0
IsRefused text Os = ⊥
IsRefused text Arguments = ⊥
IsRefused text (Run fault) = HasNoReport text fault
IsRefused text (Input fault) = Refuses text fault

-- The text is at fault: it is no scenario, and this is why.
abbrev pub IsAtFault : List ℕ → ProgramError → Type 0
IsAtFault text failure = IsRefused text failure × (exit_status failure ≡ 2)

-- The report is that of what was read.
abbrev pub IsAnswer : JournalMode → Option (List ℕ) → List ℕ → Type 0
IsAnswer journal known report = (text : List ℕ) × IsRead known text × IsReport journal text report

-- The whole report of what was read was written.
abbrev pub HasReported : JournalMode → Option (List ℕ) → Option (List ℕ) → Option (List ℕ) → Type 0
HasReported journal known old new = (report : List ℕ) × IsAnswer journal known report × Appends old new report

-- What was read is refused for this reason.
abbrev pub IsRefusedOf : Option (List ℕ) → ProgramError → Type 0
IsRefusedOf known failure = (text : List ℕ) × IsRead known text × IsRefused text failure

-- The failure is met with so many arguments, this input, and a call of the reader or the writer that failed or none. It is `Os` exactly if one
-- failed. Of refused memory nothing can be said.
abbrev pub IsMet : ℕ → Option (List ℕ) → Bool → ProgramError → Type 0
IsMet arguments known failed Os = (arguments ≡ 0) × IsTrue failed
IsMet arguments known failed Arguments = (0 < arguments) × (failed ≡ false)
IsMet arguments known failed (Run fault) = (arguments ≡ 0) × (failed ≡ false) × IsRefusedOf known (Run fault)
IsMet arguments known failed (Input NoMemory) = (arguments ≡ 0) × (failed ≡ false)
IsMet arguments known failed (Input NotToml) = (arguments ≡ 0) × (failed ≡ false) × IsRefusedOf known (Input NotToml)
IsMet arguments known failed (Input (BadScenario place reason)) =
    (arguments ≡ 0) × (failed ≡ false) × IsRefusedOf known (Input (BadScenario place reason))

-- What a run that failed has done with its writer: it did not call it; or it wrote a beginning of the report of what was read, and then writing
-- failed.
pub data IsCutShort {W : Type 0} (journal : JournalMode) (contents : W → Option (List ℕ)) (known : Option (List ℕ)) (old new : Watching W) : Type 0 where
  nothing : new ≡ old → IsCutShort journal contents known old new
  a_beginning : (report : List ℕ) → IsTrue new.failed → IsAnswer journal known report →
      AppendsBeginning (contents old.stream) (contents new.stream) report → IsCutShort journal contents known old new
