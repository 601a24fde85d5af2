use Rattle.std.proofs.Common.{◌≡◌}
use Rattle.mb_gate.specs.Accessors.{actors_of, pass_view}
use Rattle.mb_gate.specs.Rule.{IsPart}
use Rattle.mb_gate.specs.Untouched.{origin_of}
use Rattle.mb_system.specs.Obligations.{AreDischargedOrOwed}
use Rattle.mb_system.specs.Members.{IsHandleOf, handle_caller}
use Rattle.mb_dispatch.specs.Claims.{RunsEachClaim}
use Rattle.mb_dispatch.specs.Runs.{MadeMoreRuns}
use Rattle.mb_dispatch.proofs.quiet.work_quietly.Given as goal

abbrev pub invariant-loop : goal.invariant-loop
invariant-loop g l =
    IsHandleOf l.system.gates l.handle.registrar × (l.handle.number ≡ l.fn.handle.number)
    × IsPart (pass_view l.fn.handle.registrar.pass).log (pass_view l.handle.registrar.pass).log × AreDischargedOrOwed (actors_of l.system.gates) (handle_caller l.handle.registrar)
    × MadeMoreRuns g.K.Behaviours.gives (origin_of l.system.gates) l.system.throughput (pass_view l.fn.handle.registrar.pass) l.fn.turns.list.items l.list.items (pass_view l.handle.registrar.pass)
    × RunsEachClaim l.fn.handle l.handle × (l.list.retention ≡ l.fn.turns.list.retention)
