use Rattle.std.proofs.Common.{◌≡◌, true, false, length}
use Rattle.mb_journal.specs.Life.{closed}
use Rattle.mb_gate.specs.Accessors.{pass_view}
use Rattle.mb_gate.specs.Untouched.{origin_of}
use Rattle.mb_register.specs.Caller.{caller_of, CallerAdvances}
use Rattle.mb_mailbox.specs.RunRegistrar.{IsRunRegistrarOf}
use Rattle.mb_mailbox.specs.Emptied.{IsCleared}
use Rattle.mb_mailbox.specs.RunState.{run_state}
use Rattle.mb_mailbox.specs.Recorded.{SendsAsRecorded}
use Rattle.mb_mailbox.specs.Running.{IsRunning, BacklogAgrees, KeepsJournal}
use Rattle.mb_mailbox.proofs.RunSendsLemmas.{Carrying}
use Rattle.mb_mailbox.proofs.acts.carry_out.Given as goal

abbrev pub invariant-loop-act : goal.invariant-loop-act
invariant-loop-act g l =
    IsRunRegistrarOf g.W.RunQueue.origin l.gates l.registrar
    × IsRunning g.K.Behaviours.gives (origin_of l.gates) l.claim.home.value.cell.acts (pass_view l.registrar.pass).log (run_state l.claim)
    × BacklogAgrees (run_state l.claim)
    × KeepsJournal (run_state l.initial.claim) (run_state l.claim)
    × CallerAdvances (caller_of g.W.RunQueue.pushed g.W.RunQueue.refused l.initial.registrar) (caller_of g.W.RunQueue.pushed g.W.RunQueue.refused l.registrar)
    × (l.is_clean ≡ true → IsCleared (run_state l.initial.claim) (run_state l.claim))
    × (l.is_clean ≡ false → closed l.claim.home.value.cell.who l.claim.home.value.cell.journal ≡ true)
    × SendsAsRecorded l.initial.registrar l.registrar l.initial.claim l.claim
    × Carrying (run_state l.initial.claim) (run_state l.claim)

abbrev pub decreases-loop-act : goal.decreases-loop-act
decreases-loop-act g l = length l.claim.home.value.cell.acts
