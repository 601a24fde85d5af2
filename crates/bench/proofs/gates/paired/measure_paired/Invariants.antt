use Rattle.std.proofs.Common.{◌≡◌}
use Rattle.mb_gate.specs.Accessors.{pass_id}
use Rattle.bench.proofs.gates.paired.measure_paired.Given as goal

abbrev pub invariant-loop : goal.invariant-loop
invariant-loop g l = (pass_id l.first ≡ pass_id l.initial.first) × (pass_id l.second ≡ pass_id l.initial.second)
