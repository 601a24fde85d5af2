use Rattle.std.proofs.Common.{◌≡◌, ◌+◌, ◌*◌, ◌≤◌, ◌++◌, vec_len, vec_capacity, reverse}
use Rattle.mb_gate.specs.Starts.{slots_of}
use Rattle.mb_gate.proofs.new.fill_slots.Given as goal

abbrev pub invariant-loop-home : goal.invariant-loop-home
invariant-loop-home g l =
    (slots_of l.homes.items ++ reverse l.slots.items ≡ slots_of l.initial.homes.items)
    × (2 * vec_len l.homes + vec_len l.slots ≤ vec_capacity l.slots) × (vec_len l.initial.homes ≤ vec_capacity l.homes)

abbrev pub decreases-loop-home : goal.decreases-loop-home
decreases-loop-home g l = vec_len l.homes
