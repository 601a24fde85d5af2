-- The held envelopes may go to another thread.
use denote.Param.Send.{IsSend, sendable, view_send}
use denote.Param.SendFields.{declared_send}
use Rattle.std.proofs.Crossing.{crosses as std_crosses, send as heap_send}
use Rattle.std.proofs.cmp.Reverse.TheSendSync as reverse
use Rattle.std.proofs.collections.BinaryHeap.TheSendSync as heap
use Rattle.slab.proofs.Slab.TheSendSync as slab
use Rattle.mb_msg.proofs.envelope.Envelope.TheSendSync as envelope
use Rattle.mb_queue.specs.contracts.rank_key.RankKey as rank_key
use Rattle.mb_queue.specs.contracts.waiting.Waiting as waiting
use Rattle.mb_queue.specs.contracts.waiting.Waiting.TheInside as waiting_inside

rank_key_send : IsSend rank_key.the_row
rank_key_send = declared_send rank_key.the_type
    (search sendable, (search sendable, (search sendable, (search (sendable, std_crosses) depth 20, tt))))

pub waiting_send : IsSend waiting.the_row
waiting_send = view_send _ _ _ _ _ (declared_send waiting_inside.the_type (
  search (sendable, std_crosses, heap_send, heap.the_field_send, heap.the_send, reverse.the_field_send, reverse.the_send, rank_key_send) depth 30,
  (search (sendable, std_crosses, heap_send, slab.the_send, envelope.the_send) depth 30, tt),
))
