use denote.Param.Send.{sendable}
use Rattle.mb_queue.proofs.Crossing.{take_pass_send}
use Rattle.bench.proofs.Crossing.{sender_crosses}
use Rattle.bench.proofs.queues.control.Goals as goal

pub measure-requires-send-T : goal.measure-requires-send-T
measure-requires-send-T g c κs within = search (sendable, take_pass_send) depth 20

pub measure-requires-send-P : goal.measure-requires-send-P
measure-requires-send-P g c κs within = search (sendable, sender_crosses) depth 20
