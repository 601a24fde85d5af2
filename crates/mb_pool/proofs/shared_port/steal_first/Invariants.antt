use Rattle.std.proofs.Common.{◌≡◌}
use Rattle.crossbeam_deque.specs.Injected.{injector_view, IsInjectorPassOf}
use Rattle.mb_pool.proofs.shared_port.steal_first.Given as goal

abbrev pub invariant-loop : goal.invariant-loop
invariant-loop g l = IsInjectorPassOf l.queue l.pass × (injector_view l.pass ≡ injector_view l.initial.pass)
