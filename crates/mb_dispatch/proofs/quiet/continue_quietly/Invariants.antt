use Rattle.std.proofs.Common.{◌≡◌, []}
use Rattle.mb_gate.specs.Accessors.{pass_view}
use Rattle.mb_gate.specs.Untouched.{origin_of}
use Rattle.mb_dispatch.specs.Alone.{FirstAlone, KeepsAlone}
use Rattle.mb_dispatch.specs.Runs.{MadeMoreRuns, turns_in}
use Rattle.mb_dispatch.specs.Working.{HasSettled}
use Rattle.mb_dispatch.proofs.quiet.continue_quietly.Given as goal

abbrev pub invariant-loop : goal.invariant-loop
invariant-loop g l =
    FirstAlone (KeepsAlone l.system) l.fn.handles l.handles × FirstAlone (λ o n. HasSettled g.K.Behaviours.gives l.system n) l.fn.handles l.handles
    × FirstAlone (λ o n. MadeMoreRuns g.K.Behaviours.gives (origin_of l.system.gates) l.system.throughput (pass_view o.registrar.pass) (turns_in l.fn.turns)
    (turns_in l.all) (pass_view n.registrar.pass)) l.fn.handles l.handles
    × (l.all.list.retention ≡ l.fn.turns.list.retention) × (l.senders ≡ l.fn.senders) × (l.no_jobs.items ≡ [])
