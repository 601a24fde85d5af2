use Rattle.mb_pool.proofs.Moves.{begins}
use Rattle.mb_pool.proofs.shared_port.FeedQueuePort.new.Goals as goal

pub new_as-requires : goal.new_as-requires
new_as-requires g c = begins _
