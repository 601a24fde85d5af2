use Rattle.std.proofs.Common.{◌≡◌}
use Rattle.mb_gate.specs.Accessors.{pass_id}
use Rattle.bench.proofs.gates.alone.measure.Given as goal

abbrev pub invariant-loop : goal.invariant-loop
invariant-loop g l = pass_id l.pass ≡ pass_id l.initial.pass
