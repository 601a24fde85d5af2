-- How a run ends.
use Rattle.std.proofs.Common.{◌≡◌, ℕ, Bool, true, false, ◌||◌, List, take, Option, Some, None, IfSome, refl, sym, subst, inl, ap, ◌∙◌}
use Rattle.std.proofs.Common.{inr, Result, Ok, Err, IfOk, IfErr, String, string_bytes}
use Rattle.std.specs.declared.alloc.Global.{Global}
use Rattle.mb_msg.specs.declared.journal_mode.JournalMode.{JournalMode}
use Rattle.mb_scenario.specs.declared.read_error.ReadError.{ReadError}
use Rattle.mb_scenario.specs.declared.read_error.ReadError.TheVariants.{NoMemory, NotToml, BadScenario}
use Rattle.mb_streams.specs.ProgramError.{error_line, exit_status}
use Rattle.mb_streams.specs.ReportOutput.{IsHandedOut}
use Rattle.mb_streams.specs.ReportOutput.IsHandedOut.{whole, a_beginning}
use Rattle.mb_streams.specs.Input.{most_read, IsRead, IsReadFailure}
use Rattle.mb_streams.specs.ErrorLine.{IsLineSaid, IsRefusal, IsSaidFor}
use Rattle.mb_streams.specs.Tracking.{Watching}
use Rattle.mb_streams.specs.Written.{AppendsBeginning}
use Rattle.mb_streams.specs.declared.program_error.ProgramError.{ProgramError}
use Rattle.mb_streams.specs.declared.program_error.ProgramError.TheVariants.{Os, Arguments, Run, Input}
use Rattle.mb_streams.specs.declared.fault.RunFault.TheVariants as run
use Rattle.mb_streams.proofs.SayingLemmas.{refused_not_zero}
use Rattle.mb_program.specs.Answer.{HasReported, IsAnswer, IsAtFault, IsCutShort, IsMet, IsRefused}
use Rattle.mb_program.specs.Answer.IsCutShort.{nothing, a_beginning as some_of_it}
use Rattle.mb_program.proofs.Refusals.{read_not_refused}

-- what a run with another status than 0 promises, of its result, its arguments, what the reader has and whether it failed, the
-- writer, and what was said
abbrev pub HasFailed : JournalMode → (W : Type 0) → (W → Option (List ℕ)) → ℕ → ℕ → Option (List ℕ) → Bool → Watching W → Watching W →
    Option (List ℕ) → Option (List ℕ) → Bool → Type 0
HasFailed journal W contents result arguments known read_failed old new said_old said_new errors_failed =
    (failure : ProgramError) × (result ≡ exit_status failure) × IsMet arguments known (read_failed || new.failed) failure
    × IsCutShort journal contents known old new × IsLineSaid said_old said_new errors_failed (error_line failure)

-- what has a report is not refused
answered_not_refused : (journal : JournalMode) (A : Type 0) → (known : Option (List ℕ)) (report : List ℕ) → IsAnswer journal known report →
    IfSome known (λ input. (failure : ProgramError) → IsAtFault (take most_read input) failure → A)
answered_not_refused journal A None report answer = tt
answered_not_refused journal A (Some input) report answer = λ failure refused.
    let read : answer.0 ≡ take most_read input = answer.1 in
    absurd (read_not_refused answer.0 answer.2.0 failure answer.2.1 (subst (λ (t : List ℕ). IsRefused t failure) (sym read) refused.0)
    refused.1)

met_at_all : (arguments : ℕ) (known : Option (List ℕ)) (failed : Bool) (fault : ReadError) → IsMet arguments known failed (Input fault) →
    (arguments ≡ 0) × (failed ≡ false)
met_at_all arguments known failed NoMemory met = met
met_at_all arguments known failed NotToml met = (met.0, met.1)
met_at_all arguments known failed (BadScenario place reason) met = (met.0, met.1)

-- what is refused of what was read is met
pub met_refused : (arguments : ℕ) (known : Option (List ℕ)) (text : List ℕ) (failed : Bool) (failure : ProgramError) → arguments ≡ 0 →
    IsRead known text → failed ≡ false → IsRefused text failure → IsMet arguments known failed failure
met_refused arguments known text failed Os zero read none refused = absurd refused
met_refused arguments known text failed Arguments zero read none refused = absurd refused
met_refused arguments known text failed (Run fault) zero read none refused = (zero, none, (text, read, refused))
met_refused arguments known text failed (Input NoMemory) zero read none refused = (zero, none)
met_refused arguments known text failed (Input NotToml) zero read none refused = (zero, none, (text, read, refused))
met_refused arguments known text failed (Input (BadScenario place reason)) zero read none refused = (zero, none, (text, read, refused))

-- what ended the reading is met
pub met_unread : (arguments : ℕ) (known : Option (List ℕ)) (before after : Bool) (failure : ProgramError) → arguments ≡ 0 → before ≡ false →
    IsReadFailure before after failure → IsMet arguments known after failure
met_unread arguments known before after Os zero none failed = (zero, failed)
met_unread arguments known before after Arguments zero none failed = absurd failed
met_unread arguments known before after (Run fault) zero none failed = absurd failed
met_unread arguments known before after (Input NoMemory) zero none failed = (zero, failed ∙ none)
met_unread arguments known before after (Input NotToml) zero none failed = absurd failed
met_unread arguments known before after (Input (BadScenario place reason)) zero none failed = absurd failed

-- what is said is met
met_said : (failure said : ProgramError) (arguments : ℕ) (known : Option (List ℕ)) (failed : Bool) →
    IsSaidFor failure said → IsMet arguments known failed failure → IsMet arguments known failed said
met_said Os said arguments known failed same met = subst (λ (f : ProgramError). IsMet arguments known failed f) (sym same) met
met_said Arguments said arguments known failed same met = subst (λ (f : ProgramError). IsMet arguments known failed f) (sym same) met
met_said (Run run.NoMemory) said arguments known failed same met = subst (λ (f : ProgramError). IsMet arguments known failed f) (sym same) met
met_said (Run run.JournalFull) said arguments known failed same met = subst (λ (f : ProgramError). IsMet arguments known failed f) (sym same) met
met_said (Run run.Mismatch) said arguments known failed same met = subst (λ (f : ProgramError). IsMet arguments known failed f) (sym same) met
met_said (Input fault) said arguments known failed (inl same) met = subst (λ (f : ProgramError). IsMet arguments known failed f) (sym same) met
met_said (Input fault) said arguments known failed (inr same) met =
    subst (λ (f : ProgramError). IsMet arguments known failed f) (sym same) (met_at_all arguments known failed fault met)

or_false : (a b : Bool) → b ≡ false → (a || b) ≡ a
or_false true b e = refl
or_false false b e = e

or_true : (a b : Bool) → b ≡ true → (a || b) ≡ true
or_true true b e = refl
or_true false b e = e

-- a run that failed before anything was written
failed_before : (journal : JournalMode) (W : Type 0) → (contents : W → Option (List ℕ)) → (failure : ProgramError) (result arguments : ℕ) (known : Option (List ℕ)) (read_failed : Bool)
    (old new : Watching W) (said_old said_new : Option (List ℕ)) (errors_failed : Bool) → old.failed ≡ false → new ≡ old →
    IsMet arguments known read_failed failure → IsRefusal failure result said_old said_new errors_failed →
    HasFailed journal W contents result arguments known read_failed old new said_old said_new errors_failed
failed_before journal W contents failure result arguments known read_failed old new said_old said_new errors_failed none unwritten met refusal = (
  refusal.0,
  refusal.2,
  subst (λ (b : Bool). IsMet arguments known b refusal.0) (sym (or_false read_failed new.failed (ap (λ (w : Watching W). w.failed) unwritten ∙ none)))
      (met_said failure refusal.0 arguments known read_failed refusal.1 met),
  nothing unwritten,
  refusal.3,
)

-- a run whose report could not be written
failed_writing : (journal : JournalMode) (W : Type 0) → (contents : W → Option (List ℕ)) → (result arguments : ℕ) (known : Option (List ℕ)) (read_failed : Bool)
    (old new : Watching W) (said_old said_new : Option (List ℕ)) (errors_failed : Bool) (report : List ℕ) → arguments ≡ 0 → new.failed ≡ true →
    IsAnswer journal known report → AppendsBeginning (contents old.stream) (contents new.stream) report →
    IsRefusal Os result said_old said_new errors_failed →
    HasFailed journal W contents result arguments known read_failed old new said_old said_new errors_failed
failed_writing journal W contents result arguments known read_failed old new said_old said_new errors_failed report none failed answer part refusal = (
  refusal.0,
  refusal.2,
  subst (λ (f : ProgramError). IsMet arguments known (read_failed || new.failed) f) (sym refusal.1) (none, or_true read_failed new.failed failed),
  some_of_it report failed answer part,
  refusal.3,
)

-- what was answered to the input, and what came of handing it out
module _ {W E : Type 0} (journal : JournalMode) (contents : W → Option (List ℕ)) (said : E → Option (List ℕ)) (arguments : ℕ) (known : Option (List ℕ))
    (read_failed : Bool) (status : ℕ) (old new : Watching W) (errors_old errors_new : Watching E) where
  abbrev IsAnswered : Result (String Global) ProgramError → Type 0
  IsAnswered outcome = IfOk outcome (λ report. (arguments ≡ 0) × (read_failed ≡ false) × IsAnswer journal known (string_bytes report))

  abbrev IsWritten : Result (String Global) ProgramError → Type 0
  IsWritten outcome = IfOk outcome (λ report. IsHandedOut contents said (string_bytes report) status old new errors_old errors_new)

  abbrev IsUnwritten : Result (String Global) ProgramError → Type 0
  IsUnwritten outcome = IfErr outcome (λ failure. new ≡ old)

  abbrev IsTold : Result (String Global) ProgramError → Type 0
  IsTold outcome = IfErr outcome (λ failure. IsRefusal failure status (said errors_old.stream) (said errors_new.stream) errors_new.failed)

  pub ended-reported : (outcome : Result (String Global) ProgramError) → IsAnswered outcome → IsWritten outcome → IsTold outcome → status ≡ 0
      → HasReported journal known (contents old.stream) (contents new.stream)
  ended-reported (Ok report) answer (whole zero working written same) told is = (string_bytes report, answer.2, written)
  ended-reported (Ok report) answer (a_beginning failed part refusal) told is = absurd (refused_not_zero Os status _ _ _ refusal is)
  ended-reported (Err failure) answer written told is = absurd (refused_not_zero failure status _ _ _ told is)

  pub ended-no-failure : (outcome : Result (String Global) ProgramError) → IsAnswered outcome → IsWritten outcome → IsTold outcome → status ≡ 0
      → (read_failed || new.failed) ≡ false
  ended-no-failure (Ok report) answer (whole zero working written same) told is = or_false read_failed new.failed working ∙ answer.1
  ended-no-failure (Ok report) answer (a_beginning failed part refusal) told is = absurd (refused_not_zero Os status _ _ _ refusal is)
  ended-no-failure (Err failure) answer written told is = absurd (refused_not_zero failure status _ _ _ told is)

  pub ended-no-error : (outcome : Result (String Global) ProgramError) → IsWritten outcome → IsTold outcome → status ≡ 0 → errors_new ≡ errors_old
  ended-no-error (Ok report) (whole zero working written same) told is = same
  ended-no-error (Ok report) (a_beginning failed part refusal) told is = absurd (refused_not_zero Os status _ _ _ refusal is)
  ended-no-error (Err failure) written told is = absurd (refused_not_zero failure status _ _ _ told is)

  pub ended-failed : (outcome : Result (String Global) ProgramError) → old.failed ≡ false → IsAnswered outcome
      → IfErr outcome (IsMet arguments known read_failed) → IsWritten outcome → IsUnwritten outcome → IsTold outcome → (status ≡ 0 → ⊥)
      → HasFailed journal W contents status arguments known read_failed old new (said errors_old.stream) (said errors_new.stream) errors_new.failed
  ended-failed (Ok report) none answer met (whole zero working written same) unwritten told other = absurd (other zero)
  ended-failed (Ok report) none answer met (a_beginning failed part refusal) unwritten told other =
      failed_writing journal W contents status arguments known read_failed old new _ _ _ (string_bytes report) answer.0 failed answer.2 part refusal
  ended-failed (Err failure) none answer met written unwritten told other =
      failed_before journal W contents failure status arguments known read_failed old new _ _ _ none unwritten met told

  unwritten-anyway : (known : Option (List ℕ)) → new ≡ old
      → IfSome known (λ input. (failure : ProgramError) → IsAtFault (take most_read input) failure → new ≡ old)
  unwritten-anyway None same = tt
  unwritten-anyway (Some input) same = λ failure refused. same

  pub ended-silent : (outcome : Result (String Global) ProgramError) → IsAnswered outcome → IsUnwritten outcome
      → IfSome known (λ input. (failure : ProgramError) → IsAtFault (take most_read input) failure → new ≡ old)
  ended-silent (Ok report) answer unwritten = answered_not_refused journal (new ≡ old) known (string_bytes report) answer.2
  ended-silent (Err failure) answer unwritten = unwritten-anyway known unwritten

  -- with arguments
  pub ended-refused : (outcome : Result (String Global) ProgramError) → outcome ≡ Err Arguments → IsTold outcome → status ≡ 2
  ended-refused outcome same told =
      let refusal = subst (λ (r : Result (String Global) ProgramError). IsTold r) same told in refusal.2 ∙ ap exit_status refusal.1

  pub ended-unwritten : (outcome : Result (String Global) ProgramError) → outcome ≡ Err Arguments → IsUnwritten outcome → new ≡ old
  ended-unwritten outcome same unwritten =
      subst (λ (r : Result (String Global) ProgramError). IsUnwritten r) same unwritten
