use Rattle.mb_queue.proofs.Moves.{begins}
use Rattle.mb_queue.proofs.bounded_fifo.BoundedFifo.new.Goals as goal

pub ruled-requires-clause-rule : goal.ruled-requires-clause-rule
ruled-requires-clause-rule c = begins
