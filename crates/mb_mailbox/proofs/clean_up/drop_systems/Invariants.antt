use Rattle.std.proofs.Common.{◌≡◌, true, length}
use Rattle.mb_gate.specs.Accessors.{pass_view, claim_view, status_of, given_to}
use Rattle.mb_home.specs.AtHome.{given_of}
use Rattle.mb_gate.specs.Untouched.{origin_of}
use Rattle.mb_register.specs.Caller.{caller_of, CallerAdvances}
use Rattle.mb_mailbox.specs.RunRegistrar.{IsRunRegistrarOf}
use Rattle.mb_mailbox.specs.RunState.{run_state}
use Rattle.mb_mailbox.specs.Recorded.{SendsAsRecorded}
use Rattle.mb_mailbox.specs.Running.{IsRunning, KeepsJournal}
use Rattle.mb_mailbox.proofs.RunSendsLemmas.{Dropping}
use Rattle.mb_mailbox.proofs.clean_up.drop_systems.Given as goal

abbrev pub invariant-loop-node : goal.invariant-loop-node
invariant-loop-node g l =
    IsRunRegistrarOf g.W.RunQueue.origin l.gates l.registrar
    × ((status_of l.claim).closed ≡ true)
    × IsRunning g.K.Behaviours.gives (origin_of l.gates) l.claim.home.value.cell.acts (pass_view l.registrar.pass).log (run_state l.claim)
    × (given_of l.claim.home.value ≡ given_of l.initial.claim.home.value) × (given_to l.claim ≡ given_to l.initial.claim)
    × (l.claim.home.value.cell ≡ l.initial.claim.home.value.cell) × ((claim_view l.claim).log ≡ (claim_view l.initial.claim).log)
    × KeepsJournal (run_state l.initial.claim) (run_state l.claim)
    × CallerAdvances (caller_of g.W.RunQueue.pushed g.W.RunQueue.refused l.initial.registrar) (caller_of g.W.RunQueue.pushed g.W.RunQueue.refused l.registrar)
    × SendsAsRecorded l.initial.registrar l.registrar l.initial.claim l.claim
    × Dropping (run_state l.initial.claim) (run_state l.claim)

abbrev pub decreases-loop-node : goal.decreases-loop-node
decreases-loop-node g l = length l.claim.home.value.rest
