-- Kept lists and dead letters may go to another thread.
use denote.RattleType.{RattleType}
use denote.Param.Send.{IsSend, sendable, view_send}
use denote.Param.SendFields.{declared_send}
use Rattle.std.proofs.Crossing.{crosses as std_crosses}
use Rattle.mb_msg.proofs.dead_letter.DeadLetter.TheSendSync as dead_letter
use Rattle.mb_ghost.proofs.Crossing.{log_send}
use Rattle.mb_dead_letters.specs.contracts.kept_list.KeptList as kept_list
use Rattle.mb_dead_letters.specs.contracts.kept_list.KeptList.TheInside as kept_list_inside
use Rattle.mb_dead_letters.specs.contracts.dead_letters.DeadLetters as dead_letters
use Rattle.mb_dead_letters.specs.contracts.dead_letters.DeadLetters.TheInside as dead_letters_inside

pub kept_list_send : (T : RattleType) → IsSend T → IsSend (kept_list.the_row T)
kept_list_send T item = view_send _ _ _ _ _ (declared_send (kept_list_inside.the_type T) (
  search sendable,
  (search sendable, (search sendable, (search (sendable, std_crosses, item) depth 20, (log_send T, tt)))),
))

pub dead_letters_send : IsSend dead_letters.the_row
dead_letters_send = view_send _ _ _ _ _ (declared_send dead_letters_inside.the_type (kept_list_send _ dead_letter.the_send, (search sendable, (search sendable, tt))))
