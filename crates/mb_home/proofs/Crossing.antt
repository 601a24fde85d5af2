-- A home may go to another thread where its actor and its kind of behaviours may.
use denote.RattleType.{RattleType}
use denote.Param.Send.{IsSend, sendable, view_send}
use denote.Param.SendFields.{declared_send}
use Rattle.std.proofs.Crossing.{crosses as std_crosses}
use Rattle.mb_msg.proofs.envelope.Envelope.TheSendSync as envelope
use Rattle.mb_msg.proofs.id.ActorId.TheSendSync as actor_id
use Rattle.mb_actor.specs.declared.actor.Actor as actor
use Rattle.mb_actor.specs.declared.behaviours.Behaviours as behaviours
use Rattle.mb_syslist.proofs.Crossing.{chain_send}
use Rattle.mb_queue.proofs.Crossing.{send_pass_send, take_pass_send}
use Rattle.mb_dead_letters.proofs.Crossing.{dead_letters_send, kept_list_send}
use Rattle.mb_cell.proofs.Crossing.{cell_send}
use Rattle.mb_home.specs.contracts.home.Home as home
use Rattle.mb_home.specs.contracts.home.Home.TheInside as home_inside

module _ (A K : RattleType) (gA : actor.Ghosts A.Denot) (gK : behaviours.Ghosts K.Denot) (a : IsSend A) (k : IsSend K) where
  pub home_send : IsSend (home.the_row A K gA gK)
  home_send = view_send _ _ _ _ _ (declared_send (home_inside.the_type A K gA gK) (
    search (sendable, actor_id.the_send) depth 20,
    (
      cell_send A K gA gK a k,
      (
        chain_send,
        (
          search sendable,
          (
            take_pass_send,
            (
              search (sendable, std_crosses, send_pass_send) depth 20,
              (
                search sendable,
                (
                  search sendable,
                  (
                    kept_list_send _ envelope.the_send,
                    (
                      dead_letters_send,
                      (
                        search (sendable, std_crosses) depth 20,
                        tt,
                      ),
                    ),
                  ),
                ),
              ),
            ),
          ),
        ),
      ),
    ),
  ))
