-- Handles and senders may go to other threads where actors and their kind of behaviours may, and threads may share the system then.
use Prim.Native.Nat.{ℕ}
use denote.RattleType.{RattleType}
use mir.Syntax.{Ty}
use denote.Exit.{yes}
use denote.Param.{arg, param}
use denote.Param.Send.{IsSend, IsSync, arg_send, arg_sync, param_send, param_sync, sendable}
use denote.Param.SendFields.{declared_send, declared_sync}
use Rattle.std.proofs.Crossing.{crosses as std_crosses, sync as heap_sync, Box-send}
use Rattle.std.specs.contracts.alloc.Global as heap
use Rattle.std.specs.contracts.boxed.Box as box
use Rattle.std.specs.contracts.impls.GlobalAllocator.TheImpl as allocator
use Rattle.mb_actor.specs.declared.actor.Actor as actor
use Rattle.mb_actor.specs.declared.behaviours.Behaviours as behaviours
use Rattle.mb_gate.specs.contracts.mailbox_state.BoxMailboxState.TheImpl as box_state
use Rattle.mb_gate.specs.declared.mailbox_state.MailboxState as mailbox_state
use Rattle.mb_ghost.proofs.Crossing.{log_send}
use Rattle.mb_gate.proofs.Crossing.{gates_sync}
use Rattle.mb_home.specs.contracts.home.Home as home
use Rattle.mb_home.specs.contracts.home.mailbox_state.HomeMailboxState.TheImpl as home_state
use Rattle.mb_home.proofs.Crossing.{home_send}
use Rattle.mb_register.proofs.Crossing.{registrar_send}
use Rattle.mb_send.specs.contracts.sender.GatesSender as sender
use Rattle.mb_send.proofs.Crossing as send
use Rattle.mb_pool.proofs.Crossing.{pool_sync}
use Rattle.mb_pool.specs.contracts.worker_port.WorkerPort as worker_port
use Rattle.mb_pool.specs.contracts.feed_port.FeedPort as feed_port
use Rattle.mb_pool.proofs.PoolPortCrossing.{handle_way_send as worker_port_send, feed_way_send as feed_port_send}
use Rattle.mb_system.proofs.run_activity.RunActivity.TheSendSync as going
use Rattle.mb_system.specs.contracts.handle.WorkerHandle as handle
use Rattle.mb_system.specs.contracts.system.System as system

-- so may what is passed for a type parameter
pub passed_send : (i : ℕ) (mark : Ty) (T : RattleType) → IsSend T → IsSend (param i (arg mark yes T))
passed_send i mark T s = param_send i (arg mark yes T) (arg_send mark yes T s)

pub passed_sync : (i : ℕ) (mark : Ty) (T : RattleType) → IsSync T → IsSync (param i (arg mark yes T))
passed_sync i mark T s = param_sync i (arg mark yes T) (arg_sync mark yes T s)

module _ (A K : RattleType) (gA : actor.Ghosts A.Denot) (gK : behaviours.Ghosts K.Denot) where
  abbrev pub ThePlace : RattleType
  ThePlace = box.the_row (home.the_row A K gA gK) heap.the_row allocator.ghosts

  abbrev pub place_ghosts : mailbox_state.Ghosts ThePlace.Denot
  place_ghosts =
      let none = home_state.no_dict in
      box_state.ghosts (home.the_row A K gA gK) (home_state.ghosts A K gA none gK none none) none none

module _ (A K : RattleType) (gA : actor.Ghosts A.Denot) (gK : behaviours.Ghosts K.Denot) (a : IsSend A) (k : IsSend K) where
  pub place_send : IsSend (ThePlace A K gA gK)
  place_send = Box-send (home.the_row A K gA gK) (home_send A K gA gK a k)

  pub handle_send : IsSend (handle.the_row A K gA gK)
  handle_send = declared_send (handle.the_type A K gA gK) (
    search sendable,
    (
      registrar_send (ThePlace A K gA gK) (worker_port.the_row (ThePlace A K gA gK) (place_ghosts A K gA gK)) place_send
          (worker_port_send (ThePlace A K gA gK) (place_ghosts A K gA gK) place_send),
      (search (sendable, log_send) depth 20, tt),
    ),
  )

  pub sender_send : IsSend (sender.the_row (ThePlace A K gA gK) (feed_port.the_row (ThePlace A K gA gK) (place_ghosts A K gA gK)))
  sender_send = send.sender_send (ThePlace A K gA gK) (feed_port.the_row (ThePlace A K gA gK) (place_ghosts A K gA gK)) place_send
      (feed_port_send (ThePlace A K gA gK) (place_ghosts A K gA gK) place_send)

  pub system_sync : IsSync (system.the_row A K gA gK)
  system_sync = declared_sync (system.the_type A K gA gK) (
    gates_sync (ThePlace A K gA gK) (place_ghosts A K gA gK) place_send,
    (
      pool_sync (ThePlace A K gA gK) (place_ghosts A K gA gK),
      (
        search (sendable, std_crosses, going.the_sync) depth 20,
        (search sendable, (search sendable, (search sendable, (search (sendable, heap_sync) depth 20, tt)))),
      ),
    ),
  )
