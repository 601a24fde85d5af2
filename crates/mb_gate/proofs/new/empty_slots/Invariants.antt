use Rattle.std.proofs.Common.{◌≡◌, ◌+◌, ◌≤◌, ◌++◌, length, vec_len, vec_capacity, reverse}
use Rattle.mb_gate.specs.Starts.{homes_in}
use Rattle.mb_gate.proofs.new.empty_slots.Given as goal

abbrev pub invariant-loop-slot : goal.invariant-loop-slot
invariant-loop-slot g l =
    (homes_in l.slots.items ++ reverse l.homes.items ≡ homes_in l.initial.slots.items) × (length (homes_in l.slots.items) + vec_len l.homes ≤
    vec_capacity l.homes)

abbrev pub decreases-loop-slot : goal.decreases-loop-slot
decreases-loop-slot g l = vec_len l.slots
