use Rattle.std.proofs.Common.{◌≡◌}
use Rattle.mb_gate_tests.proofs.sends.queues.course.all_go.Given as goal

abbrev pub invariant-loop-step : goal.invariant-loop-step
invariant-loop-step g l = (l.take.queue ≡ l.initial.take.queue) × (l.near.queue ≡ l.initial.near.queue) × (l.near.by ≡ l.initial.near.by)
