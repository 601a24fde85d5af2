use Rattle.std.proofs.Common.{◌≡◌, ◌≢◌, ◌⊎◌, ◌≤◌, ◌++◌, List, [], length}
use Rattle.std.specs.Prelude.{false, true, vec_capacity}
use Rattle.mb_msg.specs.declared.envelope.Envelope.{Envelope}
use Rattle.mb_shutdown.proofs.LeftLemmas.{ControlsCame}
use Rattle.mb_shutdown.proofs.RestLemmas.{SameQueue}
use Rattle.mb_shutdown.proofs.draining.drain_queue.Given as goal

abbrev pub invariant-loop : goal.invariant-loop
invariant-loop g l =
    ((more : List Envelope) × (l.take.taken ≡ l.initial.take.taken ++ (l.room.items ++ more))
    × (((l.fits ≡ true) × (more ≡ [])) ⊎ ((l.fits ≡ false) × (more ≢ []) × (vec_capacity l.room ≤ length l.room.items)))
    × ControlsCame l.take (l.room.items ++ more))
    × (SameQueue l.initial.take l.take) × (l.take.accounts ≡ l.initial.take.accounts)
    × (vec_capacity l.room ≡ vec_capacity l.initial.room)
