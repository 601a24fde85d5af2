-- Gates, passes and claims may go to another thread where the home may, and then threads may share the gates. (It is proved once here, since a search
-- would go through the boxes of a list at each slot.)
use denote.RattleType.{RattleType}
use denote.Param.Send.{IsSend, IsSync, sendable}
use denote.Param.SendFields.{declared_send, declared_sync, variants_send}
use Rattle.std.proofs.Crossing.{crosses as std_crosses, send as heap_send, sync as heap_sync}
use Rattle.atomic_table.proofs.owned.Table.TheSendSync as table
use Rattle.atomic_table.proofs.shared.Seat.TheSendSync as seat
use Rattle.mb_msg.proofs.system.SysMsg.TheSendSync as message
use Rattle.mb_msg.proofs.id.ActorId.TheSendSync as actor
use Rattle.mb_status.proofs.status.Status.TheSendSync as status
use Rattle.mb_syslist.proofs.Crossing.{list_send}
use Rattle.mb_gate.specs.declared.mailbox_state.MailboxState as resident
use Rattle.mb_gate.proofs.idle_workers.IdleWorkers.TheSendSync as idle
use Rattle.mb_gate.specs.contracts.slot.Slot as slot
use Rattle.mb_gate.specs.contracts.gates.Gates as gates
use Rattle.mb_gate.specs.contracts.pass.Pass as pass
use Rattle.mb_gate.specs.contracts.claim.Claim as claim
use Rattle.mb_gate.specs.contracts.pooled_claim.PooledClaim as pooled

pub slot_send : (H : RattleType) → IsSend H → IsSend (slot.the_row H)
slot_send H home = variants_send (slot.enum H) (
  tt,
  (
    (search sendable depth 20, tt),
    (
      (search (sendable, list_send) depth 20, tt),
      ((search (sendable, message.the_send) depth 20, tt), ((search (sendable, std_crosses) depth 20, tt), tt)),
    ),
  ),
)

pub gates_send : (H : RattleType) (g : resident.Ghosts H.Denot) → IsSend H → IsSend (gates.the_row H g)
gates_send H g home = declared_send (gates.the_type H g) (
  search sendable depth 20,
  (
    search (sendable, std_crosses, heap_send, table.the_field_send, table.the_send, slot_send) depth 20,
    (
      search sendable depth 20,
      (
        search (sendable, std_crosses) depth 20,
        (search sendable depth 20, (search (sendable, std_crosses, idle.the_send) depth 20, (search sendable depth 20, tt))),
      ),
    ),
  ),
)

pub gates_sync : (H : RattleType) (g : resident.Ghosts H.Denot) → IsSend H → IsSync (gates.the_row H g)
gates_sync H g home = declared_sync (gates.the_type H g) (
  search sendable depth 20,
  (
    search (sendable, std_crosses, heap_send, heap_sync, table.the_field_sync, table.the_sync, slot_send) depth 20,
    (
      search sendable depth 20,
      (
        search (sendable, std_crosses) depth 20,
        (search sendable depth 20, (search (sendable, std_crosses, idle.the_sync) depth 20, (search sendable depth 20, tt))),
      ),
    ),
  ),
)

pub pass_send : (H : RattleType) → IsSend H → IsSend (pass.the_row H)
pass_send H home = declared_send (pass.the_type H) (search (sendable, seat.the_send, slot_send) depth 20, tt)

pub claim_send : (H : RattleType) → IsSend H → IsSend (claim.the_row H)
claim_send H home = declared_send (claim.the_type H) (
  search sendable depth 20,
  (
    search (sendable, actor.the_field_send, actor.the_send) depth 20,
    (
      search (sendable, status.the_send) depth 20,
      (
        search (sendable, seat.the_send, slot_send) depth 20,
        (search (sendable, std_crosses) depth 20, tt),
      ),
    ),
  ),
)

pub pooled_send : (H : RattleType) → IsSend H → IsSend (pooled.the_row H)
pooled_send H home = declared_send (pooled.the_type H) (claim_send H home, tt)
