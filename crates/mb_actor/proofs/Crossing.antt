-- An actor of which the calls are known may go to another thread where the actor may, and an outbox may.
use denote.RattleType.{RattleType}
use denote.Param.Send.{IsSend, sendable, view_send}
use denote.Param.SendFields.{declared_send}
use Rattle.std.proofs.Crossing.{crosses as std_crosses}
use Rattle.mb_actor.proofs.effect.Effect.TheSendSync as effect
use Rattle.mb_actor.proofs.actor_set.ActorSet.TheSendSync as actor_set
use Rattle.mb_actor.specs.declared.actor.Actor as actor
use Rattle.mb_actor.specs.contracts.recorded_actor.RecordedActor as called
use Rattle.mb_actor.specs.contracts.recorded_actor.RecordedActor.TheInside as called_inside
use Rattle.mb_actor.specs.contracts.history.History as history
use Rattle.mb_actor.specs.contracts.history.History.TheInside as history_inside
use Rattle.mb_actor.specs.contracts.effect_list.EffectList as effect_list
use Rattle.mb_actor.specs.contracts.effect_list.EffectList.TheInside as effect_list_inside
use Rattle.mb_actor.specs.contracts.outbox.Outbox as outbox
use Rattle.mb_actor.specs.contracts.outbox.Outbox.TheInside as outbox_inside

history_send : IsSend history.the_row
history_send = view_send _ _ _ _ _ (declared_send history_inside.the_type (search (sendable, std_crosses) depth 20, tt))

effect_list_send : IsSend effect_list.the_row
effect_list_send = view_send _ _ _ _ _ (declared_send effect_list_inside.the_type (
  search (sendable, std_crosses, effect.the_send) depth 20,
  (search sendable, tt),
))

pub outbox_send : IsSend outbox.the_row
outbox_send = view_send _ _ _ _ _ (declared_send outbox_inside.the_type (
  effect_list_send,
  (
    search sendable,
    (
      search sendable,
      (
        search (sendable, actor_set.the_send) depth 20,
        (search (sendable, actor_set.the_send) depth 20, (search (sendable, std_crosses) depth 20, tt)),
      ),
    ),
  ),
))

pub called_send : (A : RattleType) (g : actor.Ghosts A.Denot) → IsSend A → IsSend (called.the_row A g)
called_send A g a = view_send _ _ _ _ _ (declared_send (called_inside.the_type A g) (search sendable, (history_send, tt)))
