use Rattle.std.proofs.Common.{◌≡◌}
use Rattle.mb_gate.specs.Accessors.{actors_of, pass_view}
use Rattle.mb_gate.specs.Rule.{IsPart}
use Rattle.mb_gate.specs.Untouched.{origin_of}
use Rattle.mb_system.specs.Obligations.{KeepsObligations}
use Rattle.mb_system.specs.Members.{IsHandleOf, handle_caller}
use Rattle.mb_dispatch.specs.Claims.{RunsEachClaim}
use Rattle.mb_dispatch.specs.Runs.{OnlyRuns}
use Rattle.mb_dispatch.proofs.working.work_on.Given as goal

abbrev pub invariant-loop : goal.invariant-loop
invariant-loop g l =
    IsHandleOf l.system.gates l.handle.registrar × (l.handle.number ≡ l.fn.handle.number)
    × IsPart (pass_view l.fn.handle.registrar.pass).log (pass_view l.handle.registrar.pass).log
    × KeepsObligations (actors_of l.system.gates) (handle_caller l.fn.handle.registrar) (handle_caller l.handle.registrar)
    × OnlyRuns g.K.Behaviours.gives (origin_of l.system.gates) l.system.throughput (pass_view l.fn.handle.registrar.pass) (pass_view l.handle.registrar.pass)
    × RunsEachClaim l.fn.handle l.handle
