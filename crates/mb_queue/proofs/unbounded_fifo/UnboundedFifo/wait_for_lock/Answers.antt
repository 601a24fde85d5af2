use Rattle.std.proofs.Common.{subst}
use Rattle.mb_queue.specs.ListSteps.{HasLocked}
use Rattle.mb_queue.proofs.ListCalls.{when_true}
use Rattle.mb_queue.proofs.unbounded_fifo.UnboundedFifo.wait_for_lock.Goals as goal

pub returns-then-try_lock-clause-locked : goal.returns-then-try_lock-clause-locked
returns-then-try_lock-clause-locked g c =
    subst (λ m. HasLocked m c.try_lock.new.pass.me) c.loop.invariant.1 (when_true _ _ _ c.if-try_lock.true c.try_lock.ensures.locked)
