use Rattle.std.proofs.Common.{◌≡◌}
use Rattle.mb_gate_tests.proofs.sends.queues.threads.take_all.Given as goal

abbrev pub invariant-loop-round : goal.invariant-loop-round
invariant-loop-round g l = l.take.queue ≡ l.initial.take.queue
