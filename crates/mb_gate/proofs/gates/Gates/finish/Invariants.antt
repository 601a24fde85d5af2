use Rattle.std.proofs.Common.{◌≡◌, ℕ, ◌*◌, ◌<◌, ◌≤◌, true, false, slice_index_or, slice_get, vec_capacity, length, Some, Option}
use Rattle.std.specs.Mem.Slots.{slots_items, slots_filled, slots_len}
use Rattle.mb_gate.specs.declared.returned_actor.ReturnedActor.{ReturnedActor}
use Rattle.mb_gate.specs.Returned.{IsTakenOut}
use Rattle.mb_gate.proofs.gates.Gates.finish.Given as goal

abbrev pub invariant-loop-actor : goal.invariant-loop-actor
invariant-loop-actor g l =
    (l.closed.words ≡ l.initial.closed.words) × (slots_items l.closed.slots ≡ slots_items l.initial.closed.slots)
    × (slots_len l.closed.slots ≡ slots_len l.initial.closed.slots)
    × ((k : ℕ) → 2 * l.actor ≤ k → k < slots_len l.closed.slots → slice_index_or (slots_filled l.closed.slots) k false ≡ true)
    × ((k : ℕ) → k < 2 * l.actor → slice_index_or (slots_filled l.closed.slots) k false ≡ false)
    × (length l.all.items ≡ l.actor) × (vec_capacity l.all ≡ vec_capacity l.initial.all)
    × ((a : ℕ) (left : Option (ReturnedActor g.row.H.Denot)) → slice_get l.all.items a ≡ Some left → IsTakenOut (slots_items l.initial.closed.words)
    (slots_items l.initial.closed.slots) a left)
