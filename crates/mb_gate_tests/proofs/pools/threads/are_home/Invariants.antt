use Rattle.std.proofs.Common.{◌≡◌}
use Rattle.mb_gate.specs.Accessors.{gates_id, pass_id}
use Rattle.mb_gate_tests.proofs.pools.threads.are_home.Given as goal

abbrev pub invariant-loop-actor : goal.invariant-loop-actor
invariant-loop-actor l = pass_id l.pass ≡ gates_id l.gates
