-- What the steps of a run have in common (`akka.dispatch.Mailbox.run`): what holds before and after each of them, between two messages and while the
-- acts of one are carried out; what each leaves of the run; and why one stops it.
use Rattle.std.specs.Prelude.{◌≡◌, ◌≤◌, ℕ, List, [], length, Option, Result, OnOk, IsErrOf}
use Rattle.std.specs.Global.{Box}
use Rattle.mb_actor.specs.Behaviour.{Moment, Reply}
use Rattle.mb_journal.specs.Acts.{Act}
use Rattle.mb_journal.specs.declared.error.ReadyError.{ReadyError}
use Rattle.mb_journal.specs.declared.error.ReadyError.TheVariants.{JournalFull, NoMemory}
use Rattle.mb_gate.specs.declared.claim.Claim.{Claim}
use Rattle.mb_gate.specs.declared.gates.Gates.{Gates}
use Rattle.mb_gate.specs.Accessors.{pass_view, recorded_by}
use Rattle.mb_gate.specs.Untouched.{Origin, origin_of}
use Rattle.mb_gate.specs.View.{Observation}
use Rattle.mb_home.specs.Contents.{Contents}
use Rattle.mb_register.specs.Caller.{caller_of, CallerAdvances}
use Rattle.mb_register.specs.declared.registrar.Registrar.{Registrar}
use Rattle.mb_mailbox.specs.Emptied.{IsCleared}
use Rattle.mb_mailbox.specs.RunRegistrar.{IsRunRegistrarOf}
use Rattle.mb_mailbox.specs.RunState.{run_state}
use Rattle.mb_mailbox.specs.Recorded.{SendsAsRecorded}
use Rattle.mb_mailbox.specs.RunSends.{SendsForEntries}
use Rattle.mb_mailbox.specs.Ran.{CountsRun, IsShortOfMemory}
use Rattle.mb_mailbox.specs.Running.{IsRunning, BacklogAgrees, KeepsJournal, SameRun}
use Rattle.mb_mailbox.specs.declared.turn.Turn.{Turn}

module _ {W : Type 0} where
  -- A run between two messages: its registrar has a pass and a port of the run queue, both of these gates; its claim is as it is between two steps,
  -- with what was drained; no act of a message is left to be carried out; and the turn counts what the run did.
  pub record InRun (gives : ℕ → Moment → Reply → Type 0) (origin : W → Option (Origin (Box Contents))) (gates : Gates (Box Contents))
      (registrar : Registrar (Box Contents) W) (claim : Claim (Box Contents)) (turn : Turn) : Type 0 where
    pub same_gates : IsRunRegistrarOf origin gates registrar
    pub running : IsRunning gives (origin_of gates) [] (pass_view registrar.pass).log (run_state claim)
    pub backlog : BacklogAgrees (run_state claim)
    pub carried_out : claim.home.value.cell.acts ≡ []
    pub run_counts : CountsRun (run_state claim) turn

  -- A step of a run, whatever it answers: the run is the same still, and its registrar advances as a caller. What its pass sent stands in the claim's
  -- record, and is what the new entries have to send and the answers to what was dropped. Where the step answers well and the mailbox was closed in
  -- it, the mailbox's queue was emptied.
  pub record Advances {T E : Type 0} (pushed refused : W → List (Claim (Box Contents))) (result : Result T E)
      (old_registrar new_registrar : Registrar (Box Contents) W) (old_claim new_claim : Claim (Box Contents)) : Type 0 where
    pub same : SameRun (run_state old_claim) (run_state new_claim)
    pub cleared : OnOk result (IsCleared (run_state old_claim) (run_state new_claim))
    pub caller_advances : CallerAdvances (caller_of pushed refused old_registrar) (caller_of pushed refused new_registrar)
    pub sends : SendsAsRecorded old_registrar new_registrar old_claim new_claim
    pub entries : SendsForEntries (run_state old_claim) (run_state new_claim)

  -- A run while it carries out the acts of a message: its registrar has a pass and a port of the run queue, both of these gates; its claim is as it is
  -- between two steps, but for these acts, which are still to be carried out, with what was drained.
  pub record InActs (gives : ℕ → Moment → Reply → Type 0) (origin : W → Option (Origin (Box Contents))) (gates : Gates (Box Contents))
      (pending : List Act) (registrar : Registrar (Box Contents) W) (claim : Claim (Box Contents)) : Type 0 where
    pub same_gates : IsRunRegistrarOf origin gates registrar
    pub running : IsRunning gives (origin_of gates) pending (pass_view registrar.pass).log (run_state claim)
    pub backlog : BacklogAgrees (run_state claim)

  -- A step that carries out acts, whatever it answers: the run is the same still, with nothing added to its journal, and its registrar advances as a
  -- caller. What its pass sent stands in the claim's record.
  pub record ActsAdvance (pushed refused : W → List (Claim (Box Contents))) (old_registrar new_registrar : Registrar (Box Contents) W)
      (old_claim new_claim : Claim (Box Contents)) : Type 0 where
    pub same : KeepsJournal (run_state old_claim) (run_state new_claim)
    pub caller_advances : CallerAdvances (caller_of pushed refused old_registrar) (caller_of pushed refused new_registrar)
    pub sends : SendsAsRecorded old_registrar new_registrar old_claim new_claim

-- The claim of a run between two messages: by all that some pass has seen it is as it is between two steps, with what was drained, and no act of a
-- message is left to be carried out.
pub record IsBetweenMessages (gives : ℕ → Moment → Reply → Type 0) (gates : Gates (Box Contents)) (claim : Claim (Box Contents)) : Type 0 where
  pub running : (seen : List Observation) × IsRunning gives (origin_of gates) [] seen (run_state claim)
  pub backlog : BacklogAgrees (run_state claim)
  pub carried_out : claim.home.value.cell.acts ≡ []

-- A step of the claim's own seat alone: by all that a pass has seen, the claim is still as it is between two steps, but for these acts, which are
-- still to be carried out. The cell is as it was, the run is the same, with nothing added to its journal, and no system message was sent for it.
pub record KeepsCell (gives : ℕ → Moment → Reply → Type 0) (gates : Gates (Box Contents)) (pending : List Act) (old new : Claim (Box Contents))
    : Type 0 where
  pub running : (seen : List Observation) → IsRunning gives (origin_of gates) pending seen (run_state old)
      → IsRunning gives (origin_of gates) pending seen (run_state new)
  pub left : new.home.value.cell ≡ old.home.value.cell
  pub same : KeepsJournal (run_state old) (run_state new)
  pub recorded : recorded_by new ≡ recorded_by old

-- A step that answers a fault stops the run: the journal is full, or memory can have been refused.
pub record StopsRun {T : Type 0} (result : Result T ReadyError) (claim : Claim (Box Contents)) : Type 0 where
  pub full : IsErrOf result JournalFull → claim.home.value.cell.who.limit ≤ length claim.home.value.cell.journal
  pub out_of_memory : IsErrOf result NoMemory → IsShortOfMemory claim.home.value.cell.who claim.home.value.cell.journal
