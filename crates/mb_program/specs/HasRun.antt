-- What the program does, and what a process has done that ran it (this project's own profile).
use Rattle.std.specs.Prelude.{◌≡◌, ◌≢◌, ℕ, ◌<◌, ◌-◌, ◌^◌, ◌||◌, min, false, take, List, Option, IfSome}
use Rattle.mb_msg.specs.declared.journal_mode.JournalMode.{JournalMode}
use Rattle.mb_streams.specs.ErrorLine.{IsLineSaid}
use Rattle.mb_streams.specs.Input.{most_read, TakesAtMost}
use Rattle.mb_streams.specs.ProgramError.{error_line, exit_status}
use Rattle.mb_streams.specs.Tracking.{Watching}
use Rattle.mb_streams.specs.declared.program_error.ProgramError.{ProgramError}
use Rattle.mb_program.specs.Answer.{HasReported, IsAtFault, IsCutShort, IsMet}

-- What a run of the program with these journals and so many arguments does, which ends with this status. Input, output and the stream for errors were these
-- before, and are the second ones now.
pub record RunsProgram {R W E : Type 0} (journal : JournalMode) (arguments : ℕ) (remaining : R → Option (List ℕ)) (contents : W → Option (List ℕ))
    (IsFlushed : W → Type 0) (said : E → Option (List ℕ)) (input new_input : Watching R) (output new_output : Watching W)
    (errors new_errors : Watching E) (status : ℕ) : Type 0 where
  -- Any argument is refused before anything is read.
  pub refused : 0 < arguments → status ≡ 2
  pub unread : 0 < arguments → new_input ≡ input
  pub unwritten : 0 < arguments → new_output ≡ output
  -- No more is read than a text may have and a byte beyond.
  pub taken : TakesAtMost most_read (remaining input.stream) (remaining new_input.stream)
  -- With the status 0 the whole report was written of what was read, and flushed at the end, and the headline holds of that report (`IsOfScenario`). No call
  -- failed, and the stream for errors was not called.
  pub reported : status ≡ 0 → HasReported journal (remaining input.stream) (contents output.stream) (contents new_output.stream)
  pub flushed : status ≡ 0 → IsFlushed new_output.stream
  pub no_failure : status ≡ 0 → (new_input.failed || new_output.failed) ≡ false
  pub no_error : status ≡ 0 → new_errors ≡ errors
  -- With another a failure was met, and its one line was said. The output was not called, unless writing the report failed.
  pub failed : status ≢ 0 → (failure : ProgramError) × (status ≡ exit_status failure)
      × IsMet arguments (remaining input.stream) (new_input.failed || new_output.failed) failure
      × IsCutShort journal contents (remaining input.stream) output new_output
      × IsLineSaid (said errors.stream) (said new_errors.stream) new_errors.failed (error_line failure)
  -- For whatever is no scenario, the output is not called.
  pub unwritten_without_scenario : IfSome (remaining input.stream) (λ text. (failure : ProgramError) → IsAtFault (take most_read text) failure →
      new_output ≡ output)

-- The process ran the program so, with as many arguments as it has where their number is known.
pub record HasRun {R W E : Type 0} (journal : JournalMode) (given : Option ℕ) (remaining : R → Option (List ℕ)) (contents : W → Option (List ℕ))
    (IsFlushed : W → Type 0) (said : E → Option (List ℕ)) (input new_input : Watching R) (output new_output : Watching W)
    (errors new_errors : Watching E) (status : ℕ) : Type 0 where
  pub arguments : ℕ
  pub counted : IfSome given (λ count. arguments ≡ min count (2 ^ 64 - 1))
  pub ran : RunsProgram journal arguments remaining contents IsFlushed said input new_input output new_output errors new_errors status
