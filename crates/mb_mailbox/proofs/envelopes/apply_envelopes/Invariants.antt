use Rattle.std.proofs.Common.{◌≡◌}
use Rattle.mb_mailbox.specs.RunState.{run_state}
use Rattle.mb_mailbox.specs.InRun.{InRun}
use Rattle.mb_mailbox.specs.Ran.{EndsBlock}
use Rattle.mb_mailbox.proofs.EnvelopeRun.{GoesOn}
use Rattle.mb_mailbox.proofs.envelopes.apply_envelopes.Given as goal

abbrev pub invariant-loop-handled : goal.invariant-loop-handled
invariant-loop-handled g l =
    InRun g.K.Behaviours.gives g.W.RunQueue.origin l.gates l.registrar l.claim l.turn
    × (l.turn.envelopes ≡ l._handled)
    × EndsBlock (run_state l.claim)
    × GoesOn g.W.RunQueue.pushed g.W.RunQueue.refused l.initial.registrar l.registrar l.initial.claim l.claim
