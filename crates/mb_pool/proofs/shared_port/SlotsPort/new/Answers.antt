use Rattle.mb_pool.proofs.Moves.{begins}
use Rattle.mb_pool.proofs.shared_port.SlotsPort.new.Goals as goal

pub ruled-requires-clause-rule : goal.ruled-requires-clause-rule
ruled-requires-clause-rule g c = begins _
