-- A registrar may go to another thread where homes and its port of the run queue may.
use denote.RattleType.{RattleType}
use denote.Param.Send.{IsSend, sendable}
use denote.Param.SendFields.{declared_send}
use Rattle.mb_gate.proofs.Crossing as gate
use Rattle.mb_register.proofs.actor_set.ActorSet.TheSendSync as owed
use Rattle.mb_register.specs.contracts.registrar.Registrar as registrar

module _ (H W : RattleType) (home : IsSend H) (run_queue : IsSend W) where
  pub registrar_send : IsSend (registrar.the_row H W)
  registrar_send = declared_send (registrar.the_type H W) (gate.pass_send H home, (search sendable, (search (sendable, owed.the_send) depth 20, (search (sendable, owed.the_send) depth 20, tt))))
