-- The invariant of what is held: at the start, as one more is held, and as one is given.
use Rattle.std.proofs.Common.{◌≡◌, ◌<◌, ◌≤◌, ◌+◌, ℕ, [], ◌∷◌, length, Some, None, is_some, count_by, sym, ap, ◌∙◌, subst, arith}
use Rattle.std.specs.BinaryHeap.{heap_items, heap_capacity, IsHeap}
use Rattle.std.specs.List.Sorted.{IsPermutation}
use Rattle.std.specs.declared.alloc.Global.{Global}
use Rattle.std.specs.declared.cmp.Reverse.{Reverse}
use Rattle.std.specs.declared.collections.BinaryHeap.{BinaryHeap}
use Rattle.std.proofs.lemmas.List.Elements.{All-head}
use Rattle.std.proofs.lemmas.List.Sorted.{All-permutation, length_permutation}
use Rattle.std.proofs.lemmas.Map.Keys.{IsDistinct-from_apart}
use Rattle.slab.specs.Slab.{Slab, Updates, get, slab_len}
use Rattle.mb_msg.specs.declared.envelope.Envelope.{Envelope}
use Rattle.mb_queue.specs.declared.rank_key.RankKey.{RankKey}
use Rattle.mb_queue.specs.declared.waiting.Arrival.{Arrival}
use Rattle.mb_queue.specs.WaitingHeap.{IsWaitingHeap, LiesIn, same_slot, rank_heap_cmp}
use Rattle.mb_queue.proofs.Slots.{comes, comes_apart, goes, goes_apart, stays_apart}

abbrev Keys : Type 0
Keys = BinaryHeap (Reverse RankKey) Global

pub nothing : (keys : Keys) (envelopes : Slab Envelope) → heap_items keys ≡ [] → IsHeap rank_heap_cmp (heap_items keys)
    → 1024 ≤ heap_capacity keys → envelopes.slots ≡ [] → 1024 ≤ envelopes.capacity → IsWaitingHeap keys envelopes
nothing keys envelopes none ordered room vacant slots =
    let empty : length (heap_items keys) ≡ 0 = ap length none in
    record {
      ordered = ordered;
      room = room;
      slots = slots;
      within_limit = omega (arith, empty);
      counted = ap (count_by is_some) vacant ∙ sym empty;
      lie = λ k d few. absurd (omega (arith, few, empty));
      apart = IsDistinct-from_apart same_slot (heap_items keys) (λ i j d before few. absurd (omega (arith, few, empty)));
    }

module _ (keys keys' : Keys) (envelopes envelopes' : Slab Envelope) (x : Reverse RankKey) (kept : IsWaitingHeap keys envelopes) where
  pub one_more : length (heap_items keys) < 1024 → (envelope : Envelope) → x.0.envelope.value ≡ envelope
      → get envelopes x.0.slot ≡ None → Updates envelopes envelopes' x.0.slot (Some envelope) → slab_len envelopes' ≡ slab_len envelopes + 1
      → envelopes'.capacity ≡ envelopes.capacity → IsPermutation (x ∷ heap_items keys) (heap_items keys')
      → IsHeap rank_heap_cmp (heap_items keys') → heap_capacity keys ≤ heap_capacity keys' → IsWaitingHeap keys' envelopes'
  one_more few envelope is vacant updates counted slots same ordered room =
      let long = length_permutation (x ∷ heap_items keys) (heap_items keys') same in
      let put = subst (λ e. Updates envelopes envelopes' x.0.slot (Some e)) (sym is) updates in
      record {
        ordered = ordered;
        room = omega (arith, kept.room, room);
        slots = omega (arith, kept.slots, slots);
        within_limit = omega (arith, few, long);
        counted = omega (arith, counted, long, kept.counted);
        lie = comes envelopes envelopes' x (heap_items keys) (heap_items keys') vacant put same kept.lie;
        apart = comes_apart envelopes envelopes' x (heap_items keys) (heap_items keys') vacant same kept.lie kept.apart;
      }

  pub one_less : IsPermutation (heap_items keys) (x ∷ heap_items keys') → IsHeap rank_heap_cmp (heap_items keys')
      → heap_capacity keys' ≡ heap_capacity keys → Updates envelopes envelopes' x.0.slot None → slab_len envelopes' + 1 ≡ slab_len envelopes
      → envelopes'.capacity ≡ envelopes.capacity → IsWaitingHeap keys' envelopes'
  one_less same ordered room updates counted slots =
      let long = length_permutation (heap_items keys) (x ∷ heap_items keys') same in
      let distinct = goes_apart x (heap_items keys') (heap_items keys) same kept.apart in
      record {
        ordered = ordered;
        room = omega (arith, kept.room, room);
        slots = omega (arith, kept.slots, slots);
        within_limit = omega (arith, kept.within_limit, long);
        counted = omega (arith, counted, long, kept.counted);
        lie = goes envelopes envelopes' x (heap_items keys') updates distinct
            (All-permutation (LiesIn envelopes) (heap_items keys) (x ∷ heap_items keys') same kept.lie);
        apart = stays_apart x (heap_items keys') distinct;
      }

-- the envelope that is found in the slot of the first is its own
pub found : (keys keys' : Keys) (envelopes : Slab Envelope) (x : Reverse RankKey) → IsWaitingHeap keys envelopes
    → IsPermutation (heap_items keys) (x ∷ heap_items keys') → (envelope : Envelope) → get envelopes x.0.slot ≡ Some envelope
    → x.0.envelope.value ≡ envelope
found keys keys' envelopes x kept same envelope got =
    let lies = All-head (LiesIn envelopes) x (heap_items keys')
    (All-permutation (LiesIn envelopes) (heap_items keys) (x ∷ heap_items keys') same kept.lie) in
    let both = sym lies ∙ got in cc

abbrev pub arriving : ℕ → ℕ → Envelope → Arrival
arriving rank number envelope = record { rank = rank; number = number; envelope = envelope }
