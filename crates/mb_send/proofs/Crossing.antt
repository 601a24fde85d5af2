-- A sender may go to another thread where homes and its port of the run queue may.
use denote.RattleType.{RattleType}
use denote.Param.Send.{IsSend, sendable}
use denote.Param.SendFields.{declared_send}
use Rattle.std.proofs.Crossing.{crosses as std_crosses, send as heap_send}
use Rattle.mb_msg.proofs.id.SenderId.TheSendSync as sender_id
use Rattle.mb_dead_letters.proofs.Crossing.{dead_letters_send}
use Rattle.mb_ghost.proofs.Crossing.{log_send}
use Rattle.mb_queue.proofs.Crossing.{send_pass_send}
use Rattle.mb_register.proofs.Crossing.{registrar_send}
use Rattle.mb_send.specs.contracts.send_log.SendLog as send_log
use Rattle.mb_send.specs.contracts.sender.GatesSender as sender

send_log_send : IsSend send_log.the_row
send_log_send = declared_send send_log.the_type (
  search (sendable, sender_id.the_send) depth 20,
  (search sendable, (dead_letters_send, (search (sendable, log_send) depth 20, tt))),
)

module _ (H W : RattleType) (home : IsSend H) (run_queue : IsSend W) where
  pub sender_send : IsSend (sender.the_row H W)
  sender_send = declared_send (sender.the_type H W)
      (registrar_send H W home run_queue, (search (sendable, std_crosses, send_pass_send) depth 20, (send_log_send, (search (sendable, heap_send) depth 20, tt))))
