use Rattle.std.proofs.Common.{◌≡◌}
use Rattle.mb_gate.specs.Accessors.{pass_id}
use Rattle.bench.proofs.gates.paired.turn_all.Given as goal

abbrev pub invariant-loop : goal.invariant-loop
invariant-loop l = pass_id l.pass ≡ pass_id l.initial.pass
