use Rattle.std.proofs.Common.{◌≡◌}
use Rattle.mb_gate.specs.Accessors.{pass_id}
use Rattle.mb_gate_tests.proofs.three.send.Given as goal

abbrev pub invariant-loop-number : goal.invariant-loop-number
invariant-loop-number g l = pass_id l.pass ≡ pass_id l.fn.pass
