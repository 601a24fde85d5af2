-- Handles and feeds may go to another thread where the home may, and threads may share a pool. (Said once, since a search would go
-- through the boxes of a claim's list at each queue.)
use denote.RattleType.{RattleType}
use denote.Param.Send.{IsSend, IsSync, sendable, view_send, view_sync}
use denote.Param.SendFields.{declared_send, declared_sync, variants_send}
use Rattle.std.proofs.Crossing.{crosses as std_crosses, send as heap_send, sync as heap_sync}
use Rattle.atomic_table.proofs.shared.Seat.TheSendSync as seat
use Rattle.atomic_blocks.proofs.rows.shared.Seat.TheSendSync as rows_seat
use Rattle.atomic_blocks.proofs.web.Seat.TheSendSync as web_seat
use Rattle.crossbeam_queue.proofs.array_queue.Slotted.TheSendSync as slotted
use Rattle.crossbeam_deque.proofs.injector.Injector.TheSendSync as injector
use Rattle.crossbeam_deque.proofs.handles.Worker.TheSendSync as worker
use Rattle.crossbeam_deque.proofs.handles.Stealer.TheSendSync as stealer
use Rattle.mb_gate.specs.declared.mailbox_state.MailboxState as resident
use Rattle.mb_gate.proofs.Crossing.{pooled_send}
use Rattle.mb_pool.proofs.padding.Padding.TheSendSync as apart
use Rattle.mb_pool.specs.contracts.pool.Pool as pool
use Rattle.mb_pool.specs.contracts.pool.Pool.TheInside as pool_inside
use Rattle.mb_pool.specs.contracts.shared_port.SlotsPort as slots_port
use Rattle.mb_pool.specs.contracts.shared_port.SlotsPort.TheInside as slots_inside
use Rattle.mb_pool.specs.contracts.shared_port.FeedQueuePort as feed_queue_port
use Rattle.mb_pool.specs.contracts.shared_port.FeedQueuePort.TheInside as feed_queue_inside
use Rattle.mb_pool.specs.contracts.shared_port.SharedPort as shared_port
use Rattle.mb_pool.specs.contracts.own_deque.OwnDeque as own_deque
use Rattle.mb_pool.specs.contracts.own_deque.OwnDeque.TheInside as own_inside
use Rattle.mb_pool.specs.contracts.thief.Thief as thief
use Rattle.mb_pool.specs.contracts.thief.Thief.TheInside as thief_inside
use Rattle.mb_pool.specs.contracts.worker_deques.WorkerDeques as member
use Rattle.mb_pool.specs.contracts.handle.PoolHandle as handle
use Rattle.mb_pool.specs.contracts.handle.PoolHandle.TheInside as handle_inside
use Rattle.mb_pool.specs.contracts.feed.Feed as feed
use Rattle.mb_pool.specs.contracts.feed.Feed.TheInside as feed_inside

pub pool_sync : (H : RattleType) (g : resident.Ghosts H.Denot) → IsSync (pool.the_row H g)
pool_sync H g = view_sync _ _ _ _ _ (declared_sync (pool_inside.the_type H g) (
  search sendable,
  (
    search sendable,
    (
      search sendable,
      (search (sendable, std_crosses) depth 20, (search (sendable, std_crosses) depth 20, (search (sendable, std_crosses) depth 20, tt))),
    ),
  ),
))

module _ (H : RattleType) (g : resident.Ghosts H.Denot) (home : IsSend H) where
  slots_port_send : IsSend (slots_port.the_row H g)
  slots_port_send = view_send _ _ _ _ _ (declared_send (slots_inside.the_type H g) (
    search (sendable, std_crosses, heap_send, heap_sync, slotted.the_field_send, slotted.the_send, slotted.the_field_sync, slotted.the_sync, pooled_send) depth 40,
    (search (sendable, std_crosses, seat.the_send, pooled_send) depth 20, tt),
  ))

  feed_queue_port_send : IsSend (feed_queue_port.the_row H g)
  feed_queue_port_send = view_send _ _ _ _ _ (declared_send (feed_queue_inside.the_type H g) (
    search (sendable, std_crosses, heap_send, heap_sync, injector.the_field_send, injector.the_send, injector.the_field_sync, injector.the_sync, pooled_send) depth 40,
    (search (sendable, std_crosses, heap_send, web_seat.the_send, pooled_send) depth 20, tt),
  ))

  pub shared_port_send : IsSend (shared_port.the_row H g)
  shared_port_send = variants_send (shared_port.enum H g) ((slots_port_send, tt), ((feed_queue_port_send, tt), tt))

  own_send : IsSend (own_deque.the_row H g)
  own_send = view_send _ _ _ _ _ (declared_send (own_inside.the_type H g) (
    search sendable depth 20,
    (
      search (sendable, std_crosses, heap_send, heap_sync, worker.the_field_send, worker.the_send, pooled_send) depth 30,
      (search (sendable, std_crosses, apart.the_send) depth 20, tt),
    ),
  ))

  thief_send : IsSend (thief.the_row H g)
  thief_send = view_send _ _ _ _ _ (declared_send (thief_inside.the_type H g) (
    search sendable depth 20,
    (
      search (sendable, std_crosses, heap_send, stealer.the_field_send, stealer.the_send, pooled_send) depth 30,
      (search (sendable, std_crosses, heap_send, rows_seat.the_send, pooled_send) depth 20, tt),
    ),
  ))

  pub member_send : IsSend (member.the_row H g)
  member_send = declared_send (member.the_type H g) (own_send, (search (sendable, std_crosses, thief_send) depth 20, tt))

  pub handle_send : IsSend (handle.the_row H g)
  handle_send = view_send _ _ _ _ _
      (declared_send (handle_inside.the_type H g) (
        apart.the_send,
        (
          shared_port_send,
          (
            search (sendable, std_crosses, member_send) depth 20,
            (apart.the_send, tt),
          ),
        ),
      ))

  pub feed_send : IsSend (feed.the_row H g)
  feed_send = view_send _ _ _ _ _ (declared_send (feed_inside.the_type H g) (shared_port_send, tt))
