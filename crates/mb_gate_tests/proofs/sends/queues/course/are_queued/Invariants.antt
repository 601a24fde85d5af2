use Rattle.std.proofs.Common.{◌≡◌}
use Rattle.mb_gate_tests.proofs.sends.queues.course.are_queued.Given as goal

abbrev pub invariant-loop-value : goal.invariant-loop-value
invariant-loop-value g l = (l.near.queue ≡ l.initial.near.queue) × (l.near.by ≡ l.initial.near.by)
