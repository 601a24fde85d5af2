use Rattle.std.proofs.Common.{◌≡◌}
use Rattle.mb_gate.specs.Accessors.{gates_id, pass_id}
use Rattle.mb_pool.specs.Places.{parts_of}
use Rattle.mb_gate_tests.proofs.pools.work.work.Given as goal

abbrev pub invariant-loop : goal.invariant-loop
invariant-loop g l = (pass_id l.pass ≡ gates_id l.gates) × (parts_of l.handle ≡ parts_of l.fn.handle)
