use Rattle.std.proofs.Common.{◌≡◌}
use Rattle.mb_gate_tests.proofs.sends.queues.threads.push_one.Given as goal

abbrev pub invariant-loop-round : goal.invariant-loop-round
invariant-loop-round g l = (l.pass.queue ≡ l.initial.pass.queue) × (l.pass.by ≡ l.initial.pass.by)
