use Rattle.std.proofs.Common.{◌≡◌, List, [], true}
use Rattle.mb_gate.specs.Accessors.{claim_view, held_actor, status_of, given_to, recorded_by}
use Rattle.mb_gate.specs.View.{Observation}
use Rattle.mb_home.specs.AtHome.{given_of}
use Rattle.mb_gate.specs.Untouched.{origin_of}
use Rattle.mb_mailbox.specs.OnlyDrained.{WasEnded}
use Rattle.mb_mailbox.specs.RunSends.{TakesSystemsIn}
use Rattle.mb_mailbox.specs.RunState.{run_state}
use Rattle.mb_mailbox.specs.Running.{IsRunning, KeepsJournal}
use Rattle.mb_mailbox.proofs.clean_up.clean_envelopes.Given as goal

abbrev pub invariant-loop : goal.invariant-loop
invariant-loop g l =
    (goal.iterator-loop g).can_next l.iterator' × (goal.iterator-loop g).is_finite l.iterator'
    × ((status_of l.claim).closed ≡ true) × WasEnded (held_actor l.claim) (claim_view l.claim).log
    × ((seen : List Observation) → IsRunning g.K.Behaviours.gives (origin_of l.gates) l.initial.claim.home.value.cell.acts seen (run_state l.initial.claim)
    → IsRunning g.K.Behaviours.gives (origin_of l.gates) l.claim.home.value.cell.acts seen (run_state l.claim))
    × (l.claim.home.value.rest ≡ [])
    × (given_of l.claim.home.value ≡ given_of l.initial.claim.home.value) × (given_to l.claim ≡ given_to l.initial.claim)
    × (l.claim.home.value.cell ≡ l.initial.claim.home.value.cell)
    × KeepsJournal (run_state l.initial.claim) (run_state l.claim)
    × (recorded_by l.claim ≡ recorded_by l.initial.claim)
    × TakesSystemsIn [] [] (run_state l.initial.claim) (run_state l.claim)
