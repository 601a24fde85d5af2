-- A cell may go to another thread where its actor and its kind of behaviours may.
use denote.RattleType.{RattleType}
use denote.Param.Send.{IsSend, sendable, view_send}
use denote.Param.SendFields.{declared_send}
use Rattle.std.proofs.Crossing.{crosses as std_crosses}
use Rattle.std.proofs.option.Option.TheSendSync as option
use Rattle.std.proofs.marker.PhantomData.TheSendSync as phantom
use Rattle.mb_actor.specs.declared.actor.Actor as actor
use Rattle.mb_actor.specs.declared.behaviours.Behaviours as behaviours
use Rattle.mb_actor.proofs.Crossing.{called_send, outbox_send}
use Rattle.mb_journal.proofs.Crossing.{journal_send}
use Rattle.mb_supervision.proofs.identity.ActorIdentity.TheSendSync as place
use Rattle.mb_supervision.proofs.Crossing.{cell_state_send}
use Rattle.mb_cell.specs.contracts.cell.Cell as cell
use Rattle.mb_cell.specs.contracts.cell.Cell.TheInside as cell_inside

module _ (A K : RattleType) (gA : actor.Ghosts A.Denot) (gK : behaviours.Ghosts K.Denot) (a : IsSend A) (k : IsSend K) where
  pub cell_send : IsSend (cell.the_row A K gA gK)
  cell_send = let called = called_send A gA a in view_send _ _ _ _ _ (declared_send (cell_inside.the_type A K gA gK) (
    place.the_send,
    (
      search (sendable, std_crosses, option.the_send, called) depth 20,
      (journal_send, (cell_state_send, (outbox_send, (search sendable, (search (sendable, phantom.the_send) depth 20, tt))))),
    ),
  ))
