use Rattle.mb_pool.proofs.Moves.{begins}
use Rattle.mb_pool.proofs.own_deque.OwnDeque.new.Goals as goal

pub fifo_as-requires : goal.fifo_as-requires
fifo_as-requires g c = begins _
