-- The state of a cell may go to another thread.
use denote.Param.Send.{IsSend, sendable, view_send}
use denote.Param.SendFields.{declared_send}
use Rattle.std.proofs.Crossing.{crosses as std_crosses, send as heap_send}
use Rattle.mb_msg.proofs.id.ActorId.TheSendSync as actor_id
use Rattle.mb_msg.proofs.system.SysMsg.TheSendSync as message
use Rattle.mb_actor.proofs.phase.Phase.TheSendSync as phase
use Rattle.mb_syslist.proofs.Crossing.{node_send}
use Rattle.mb_journal.proofs.failed_by.FailedBy.TheSendSync as failed_by
use Rattle.mb_supervision.proofs.queued_act.QueuedAct.TheSendSync as act
use Rattle.mb_supervision.specs.contracts.act_queue.ActQueue as act_queue
use Rattle.mb_supervision.specs.contracts.act_queue.ActQueue.TheInside as queue_inside
use Rattle.mb_supervision.specs.contracts.cell_state.CellState as cell_state
use Rattle.mb_supervision.specs.contracts.cell_state.CellState.TheInside as cell_state_inside

act_queue_send : IsSend act_queue.the_row
act_queue_send = view_send _ _ _ _ _ (declared_send queue_inside.the_type (
  search (sendable, heap_send) depth 20,
  (
    search (sendable, std_crosses, act.the_send) depth 20,
    (search sendable, (search (sendable, std_crosses, node_send) depth 20, (search sendable, tt))),
  ),
))

pub cell_state_send : IsSend cell_state.the_row
cell_state_send = view_send _ _ _ _ _ (declared_send cell_state_inside.the_type (
  search (sendable, phase.the_send) depth 20,
  (
    search sendable,
    (
      search sendable,
      (
        search (sendable, failed_by.the_send) depth 20,
        (
          search sendable,
          (
            search sendable,
            (
              act_queue_send,
              (
                search (sendable, std_crosses, message.the_send) depth 20,
                (
                  search (sendable, std_crosses, actor_id.the_send) depth 20,
                  (
                    search (sendable, std_crosses, actor_id.the_send) depth 20,
                    (
                      search (sendable, std_crosses, actor_id.the_send) depth 20,
                      (
                        search (sendable, std_crosses, actor_id.the_send) depth 20,
                        (
                          search (sendable, std_crosses, actor_id.the_send) depth 20,
                          tt,
                        ),
                      ),
                    ),
                  ),
                ),
              ),
            ),
          ),
        ),
      ),
    ),
  ),
))
