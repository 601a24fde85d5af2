use Rattle.std.proofs.Common.{◌≡◌}
use Rattle.mb_queue.proofs.unbounded_fifo.UnboundedFifo.wait_for_lock.Given as goal

abbrev pub invariant-loop : goal.invariant-loop
invariant-loop g l = (l.pass.table_id ≡ l.fn.pass.table_id) × (l.pass.me ≡ l.fn.pass.me)
