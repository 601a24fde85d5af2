use Rattle.std.proofs.Common.{◌≡◌}
use Rattle.mb_pool.specs.Places.{gates_of}
use Rattle.mb_dispatch.specs.Claims.{RunsEachClaim}
use Rattle.mb_dispatch.proofs.working.wait.Given as goal

abbrev pub invariant-loop : goal.invariant-loop
invariant-loop g l =
    (l.handle.registrar.pass ≡ l.fn.handle.registrar.pass) × (l.handle.registrar.owed ≡ l.fn.handle.registrar.owed)
    × (gates_of l.handle.registrar.run_queue.handle ≡ gates_of l.fn.handle.registrar.run_queue.handle) × (l.handle.number ≡ l.fn.handle.number)
    × RunsEachClaim l.fn.handle l.handle
