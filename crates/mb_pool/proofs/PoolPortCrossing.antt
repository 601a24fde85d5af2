-- The ports may go to another thread where homes may.
use denote.RattleType.{RattleType}
use denote.Param.Send.{IsSend, sendable, view_send}
use denote.Param.SendFields.{declared_send}
use Rattle.std.proofs.Crossing.{crosses as std_crosses}
use Rattle.mb_ghost.proofs.Crossing.{log_send}
use Rattle.mb_gate.specs.declared.mailbox_state.MailboxState as resident
use Rattle.mb_gate.proofs.Crossing.{pooled_send}
use Rattle.mb_pool.proofs.Crossing as pool
use Rattle.mb_pool.proofs.padding.Padding.TheSendSync as apart
use Rattle.mb_pool.specs.contracts.worker_port.WorkerPort as handle_way
use Rattle.mb_pool.specs.contracts.worker_port.WorkerPort.TheInside as handle_way_inside
use Rattle.mb_pool.specs.contracts.feed_port.FeedPort as feed_way
use Rattle.mb_pool.specs.contracts.feed_port.FeedPort.TheInside as feed_way_inside

module _ (H : RattleType) (g : resident.Ghosts H.Denot) (home : IsSend H) where
  pub handle_way_send : IsSend (handle_way.the_row H g)
  handle_way_send = view_send _ _ _ _ _ (declared_send (handle_way_inside.the_type H g) (
    apart.the_send,
    (
      pool.shared_port_send H g home,
      (
        search (sendable, std_crosses, pool.member_send) depth 20,
        (
          apart.the_send,
          (
            search (sendable, log_send) depth 20,
            (
              search (sendable, log_send) depth 20,
              (search (sendable, log_send) depth 20, (search (sendable, std_crosses, pooled_send) depth 20, tt)),
            ),
          ),
        ),
      ),
    ),
  ))

  pub feed_way_send : IsSend (feed_way.the_row H g)
  feed_way_send = view_send _ _ _ _ _
      (declared_send (feed_way_inside.the_type H g) (pool.shared_port_send H g home, (search (sendable, log_send) depth 20, tt)))
