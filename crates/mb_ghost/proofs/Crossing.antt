-- Ghost lists may go to another thread, whatever their items are: they take no bytes.
use denote.RattleType.{RattleType}
use denote.Param.Send.{IsSend, sendable, view_send}
use denote.Param.SendFields.{declared_send}
use Rattle.std.proofs.Crossing.{crosses as std_crosses}
use Rattle.mb_ghost.specs.contracts.log.Log as log
use Rattle.mb_ghost.specs.contracts.log.Log.TheInside as log_inside

pub log_send : (T : RattleType) → IsSend (log.the_row T)
log_send T = view_send _ _ _ _ _ (declared_send (log_inside.the_type T) (search (sendable, std_crosses) depth 20, tt))
