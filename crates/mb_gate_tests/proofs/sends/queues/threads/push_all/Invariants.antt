use Rattle.std.proofs.Common.{◌≡◌}
use Rattle.mb_gate_tests.proofs.sends.queues.threads.push_all.Given as goal

abbrev pub invariant-loop-number : goal.invariant-loop-number
invariant-loop-number g l = (l.pass.queue ≡ l.initial.pass.queue) × (l.pass.by ≡ l.initial.pass.by)
