use Rattle.std.proofs.Common.{subst}
use Rattle.mb_queue.specs.ListSteps.{HasLocked}
use Rattle.mb_queue.proofs.unbounded_fifo.UnboundedFifo.lock.Goals as goal

pub returns-clause-locked : goal.returns-clause-locked
returns-clause-locked g c = subst (λ m. HasLocked m c.wait_for_lock.new.pass.me) c.if-try_lock.ensures.locked c.wait_for_lock.ensures.locked
