use Rattle.std.proofs.Common.{◌≡◌}
use Rattle.std.specs.List.{AllZip}
use Rattle.mb_gate.specs.Accessors.{pass_view}
use Rattle.mb_dispatch.specs.Faults.{HasWorked}
use Rattle.mb_dispatch.specs.Working.{KeepsHandle}
use Rattle.mb_dispatch.proofs.settling.settle.Given as goal

abbrev pub invariant-loop : goal.invariant-loop
invariant-loop g l =
    (l.jobs ≡ l.fn.jobs) × (l.senders ≡ l.fn.senders) × AllZip (KeepsHandle g.K.Behaviours.gives l.system) l.fn.handles l.handles
    × AllZip (λ o n. HasWorked g.K.Behaviours.gives l.system (pass_view o.registrar.pass) n) l.fn.handles l.handles
