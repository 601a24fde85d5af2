use Rattle.std.proofs.Common.{◌≡◌}
use Rattle.mb_gate.proofs.gates.Gates.lock_list.Given as goal

abbrev pub invariant-loop : goal.invariant-loop
invariant-loop g l = (l.seat.table_id ≡ l.fn.seat.table_id) × (l.seat.me ≡ l.fn.seat.me)
