use Rattle.std.proofs.Common.{◌≡◌}
use Rattle.mb_gate.specs.Accessors.{gates_id, pass_id}
use Rattle.mb_gate_tests.proofs.contend.contend.Given as goal

abbrev pub invariant-loop : goal.invariant-loop
invariant-loop l = pass_id l.pass ≡ gates_id l.gates
