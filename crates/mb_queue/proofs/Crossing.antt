-- Passes into a queue may go to another thread.
use denote.Param.Send.{IsSend, sendable, view_send}
use denote.Param.SendFields.{declared_send, variants_send}
use Rattle.std.proofs.Crossing.{crosses as std_crosses}
use Rattle.std.proofs.option.Option.TheSendSync as option
use Rattle.mb_msg.proofs.id.SenderId.TheSendSync as sender_id
use Rattle.mb_queue.proofs.port.Port.TheSendSync as port
use Rattle.mb_ghost.proofs.Crossing.{log_send}
use Rattle.mb_queue.proofs.ranks.Ranks.TheSendSync as ranks
use Rattle.mb_queue.proofs.RankCrossing.{waiting_send}
use Rattle.mb_queue.specs.contracts.priority_state.PriorityState as choice
use Rattle.mb_queue.specs.contracts.take_order.TakeOrder as order
use Rattle.mb_queue.specs.contracts.send_pass.SendPass as send_pass
use Rattle.mb_queue.specs.contracts.send_pass.SendPass.TheInside as send_inside
use Rattle.mb_queue.proofs.batch.Batch.TheSendSync as batch
use Rattle.mb_queue.specs.contracts.take_port.TakePort as take_port
use Rattle.mb_queue.specs.contracts.take_port.TakePort.TheInside as take_port_inside
use Rattle.mb_queue.specs.contracts.take_pass.TakePass as take_pass
use Rattle.mb_queue.specs.contracts.take_pass.TakePass.TheInside as take_inside

choice_send : IsSend choice.the_row
choice_send = declared_send choice.the_type (ranks.the_send, (search sendable, (search sendable, (waiting_send, tt))))

take_port_send : IsSend take_port.the_row
take_port_send = view_send _ _ _ _ _ (declared_send take_port_inside.the_type (port.the_send, (batch.the_send, (search (sendable, log_send) depth 20, tt))))

order_send : IsSend order.the_row
order_send = variants_send order.enum (tt, ((take_port_send, tt), ((choice_send, tt), tt)))

pub send_pass_send : IsSend send_pass.the_row
send_pass_send = view_send _ _ _ _ _ (declared_send send_inside.the_type (
  search (sendable, sender_id.the_send) depth 20,
  (
    port.the_send,
    (search (sendable, std_crosses, option.the_field_send, option.the_send, port.the_send) depth 20, (search (sendable, log_send) depth 20, tt)),
  ),
))

pub take_pass_send : IsSend take_pass.the_row
take_pass_send = view_send _ _ _ _ _ (declared_send take_inside.the_type
    (take_port_send, (order_send, (search (sendable, log_send) depth 20, (search (sendable, log_send) depth 20, tt)))))
