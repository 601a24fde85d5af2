-- How the envelopes are held: their keys in a heap whose top is the next one, and each envelope in a slot of its own.
use Rattle.std.specs.Prelude.{◌≡◌, ◌≤◌, ◌==◌, Bool, List, All, Some, map, length}
use Rattle.std.specs.BinaryHeap.{heap_items, heap_capacity, IsHeap}
use Rattle.std.specs.List.{IsDistinct}
use Rattle.std.specs.declared.alloc.Global.{Global}
use Rattle.std.specs.declared.cmp.Ordering.{Ordering}
use Rattle.std.specs.declared.cmp.Reverse.{Reverse}
use Rattle.std.specs.declared.collections.BinaryHeap.{BinaryHeap}
use Rattle.slab.specs.Slab.{Slab, get, slab_len}
use Rattle.mb_msg.specs.declared.envelope.Envelope.{Envelope}
use Rattle.mb_queue.specs.declared.rank_key.RankKey.{RankKey}
use Rattle.mb_queue.specs.declared.waiting.Arrival.{Arrival}
use Rattle.mb_queue.specs.RankKey.{rank_key_order}

-- the top of the heap is the one that goes first
abbrev pub rank_heap_cmp : Reverse RankKey → Reverse RankKey → Ordering
rank_heap_cmp x y = rank_key_order y.0 x.0

abbrev pub arrival_of : Reverse RankKey → Arrival
arrival_of x = record { rank = x.0.rank; number = x.0.number; envelope = x.0.envelope.value }

-- what is held, by the entries of the heap
abbrev pub arrivals : BinaryHeap (Reverse RankKey) Global → List Arrival
arrivals keys = map arrival_of (heap_items keys)

-- the key's envelope is in its slot
abbrev pub LiesIn : Slab Envelope → Reverse RankKey → Type 0
LiesIn envelopes x = get envelopes x.0.slot ≡ Some x.0.envelope.value

abbrev pub same_slot : Reverse RankKey → Reverse RankKey → Bool
same_slot x y = x.0.slot == y.0.slot

-- it is a heap, each envelope is in a slot of its own, and there is room for all that may be held
pub record IsWaitingHeap (keys : BinaryHeap (Reverse RankKey) Global) (envelopes : Slab Envelope) : Type 0 where
  pub ordered : IsHeap rank_heap_cmp (heap_items keys)
  pub room : 1024 ≤ heap_capacity keys
  pub slots : 1024 ≤ envelopes.capacity
  pub within_limit : length (heap_items keys) ≤ 1024
  pub counted : slab_len envelopes ≡ length (heap_items keys)
  pub lie : All (LiesIn envelopes) (heap_items keys)
  pub apart : IsDistinct same_slot (heap_items keys)
