-- What goes by the queue may go to another thread.
use denote.Param.Send.{IsSend, sendable}
use denote.Param.SendFields.{declared_send}
use Rattle.std.proofs.Crossing.{crosses as std_crosses, send as heap_send, sync as heap_sync}
use Rattle.crossbeam_queue.proofs.array_queue.plain.ArrayQueue.TheSendSync as queue
use Rattle.mb_gate.proofs.Crossing.{gates_send, pass_send, claim_send}
use Rattle.mb_gate_tests.proofs.test_home.TestHome.TheSendSync as desk
use Rattle.mb_gate_tests.specs.contracts.test_home.TestHomeMailboxState.TheImpl as resident
use Rattle.mb_gate_tests.specs.contracts.fresh_claim.FreshClaim as shift
use Rattle.mb_gate_tests.specs.contracts.sent_claim.SentClaim as errand
use Rattle.mb_gate_tests.proofs.sent_claim.claims_go_by_a_queue.Goals as goal

shift_send : IsSend shift.the_row
shift_send = declared_send shift.the_type (claim_send _ desk.the_send, tt)

errand_send : IsSend errand.the_row
errand_send = declared_send errand.the_type (gates_send _ resident.ghosts desk.the_send, (pass_send _ desk.the_send, (shift_send, tt)))

pub join-words-requires-send-F : goal.join-words-requires-send-F
join-words-requires-send-F g c κs within =
    search (sendable, std_crosses, heap_send, heap_sync, queue.the_field_sync, queue.the_sync, errand_send) depth 40
