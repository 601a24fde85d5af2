use Rattle.std.proofs.Common.{◌≡◌}
use Rattle.mb_gate.specs.Accessors.{gates_id, pass_id, claim_id, held_actor}
use Rattle.mb_gate_tests.proofs.three.hold.Given as goal

abbrev pub invariant-loop : goal.invariant-loop
invariant-loop g l = (claim_id l.shift.claim ≡ gates_id l.fn.gates) × (held_actor l.shift.claim ≡ 0)
