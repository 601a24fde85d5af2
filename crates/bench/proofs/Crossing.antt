-- A worker goes to a thread of its own, and so does the sender of a queue.
use denote.RattleType.{RattleType}
use denote.Param.Send.{IsSend, sendable}
use denote.Param.SendFields.{declared_send}
use Rattle.mb_msg.proofs.id.ActorId.TheSendSync as actor
use Rattle.mb_testkit.proofs.stub_home.StubHome.TheSendSync as desk
use Rattle.mb_testkit.specs.contracts.stub_home.StubHome as stub_home_row
use Rattle.mb_testkit.specs.contracts.stub_home.StubHomeMailboxState.TheImpl as resident
use Rattle.mb_gate.specs.contracts.gates.Gates as gates
use Rattle.mb_gate.proofs.Crossing.{pass_send}
use Rattle.mb_queue.proofs.Crossing.{send_pass_send}
use Rattle.mb_pool.proofs.Crossing.{handle_send}
use Rattle.bench.proofs.times.Times.TheSendSync as times
use Rattle.bench.specs.contracts.pools.worker.Worker as worker
use Rattle.bench.specs.contracts.queues.sender.QueueSender as sender

abbrev pub TheGates : RattleType
TheGates = gates.the_row stub_home_row.the_row resident.ghosts

pub worker_crosses : IsSend worker.the_row
worker_crosses = declared_send worker.the_type (
  handle_send _ resident.ghosts desk.the_send,
  (
    pass_send _ desk.the_send,
    (search (sendable, actor.the_send) depth 20, (search sendable, (times.the_send, tt))),
  ),
)

pub sender_crosses : IsSend sender.the_row
sender_crosses = declared_send sender.the_type (send_pass_send, tt)
