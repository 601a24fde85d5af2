use denote.Param.Send.{sendable}
use Rattle.mb_queue.proofs.Crossing.{take_pass_send}
use Rattle.bench.proofs.Crossing.{sender_crosses}
use Rattle.bench.proofs.queues.beside.Goals as goal

pub compare-requires-send-T : goal.compare-requires-send-T
compare-requires-send-T g c κs within = search (sendable, take_pass_send) depth 20

pub compare-requires-send-P : goal.compare-requires-send-P
compare-requires-send-P g c κs within = search (sendable, sender_crosses) depth 20
