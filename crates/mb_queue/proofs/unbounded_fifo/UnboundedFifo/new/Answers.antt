use Rattle.std.proofs.Common.{rules}
use Rattle.mb_queue.proofs.ListSteps.{starts}
use Rattle.mb_queue.proofs.unbounded_fifo.UnboundedFifo.new.Goals as goal

pub new-requires-2 : goal.new-requires-2
new-requires-2 c = starts _ c.new.result (search rules) (search rules)
