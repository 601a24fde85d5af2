-- Jobs may go to other threads where actors and their kind of behaviours may.
use denote.RattleType.{RattleType}
use denote.Param.Send.{IsSend, sendable}
use denote.Param.SendFields.{declared_send}
use Rattle.std.proofs.Crossing.{crosses as std_crosses}
use Rattle.mb_actor.specs.declared.actor.Actor as actor
use Rattle.mb_actor.specs.declared.behaviours.Behaviours as behaviours
use Rattle.mb_system.proofs.Crossing.{sender_send}
use Rattle.mb_dispatch.specs.contracts.job.Job as job

module _ (A K : RattleType) (gA : actor.Ghosts A.Denot) (gK : behaviours.Ghosts K.Denot) (a : IsSend A) (k : IsSend K) where
  pub job_send : IsSend (job.the_row A K gA gK)
  job_send = declared_send (job.the_type A K gA gK) (sender_send A K gA gK a k, (search (sendable, std_crosses) depth 20, tt))
