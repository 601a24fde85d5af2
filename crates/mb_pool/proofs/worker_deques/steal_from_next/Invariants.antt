use Rattle.std.proofs.Common.{◌≡◌, take}
use Rattle.std.specs.Prelude.{All}
use Rattle.mb_pool.specs.Moves.{WasEmpty}
use Rattle.mb_gate.specs.Untouched.{IsUntouched}
use Rattle.mb_pool.proofs.worker_deques.steal_from_next.Given as goal

abbrev pub invariant-loop-index : goal.invariant-loop-index
invariant-loop-index g l = (l.thieves ≡ l.initial.thieves) × All (WasEmpty
    (IsUntouched g.H.MailboxState.is_of g.H.MailboxState.facts))
    (take l.index l.initial.thieves)
