use Rattle.std.proofs.Common.{◌≡◌}
use Rattle.mb_gate_tests.proofs.sends.queues.course.are_taken.Given as goal

abbrev pub invariant-loop-value : goal.invariant-loop-value
invariant-loop-value g l = l.take.queue ≡ l.initial.take.queue
