use Rattle.std.proofs.Common.{◌≡◌}
use Rattle.mb_gate.specs.Accessors.{pass_view, pass_id}
use Rattle.mb_shutdown.specs.Idle.{WereReadIdle}
use Rattle.mb_shutdown.proofs.idle.first_busy.Given as goal

abbrev pub invariant-loop-number : goal.invariant-loop-number
invariant-loop-number g l =
    (pass_id l.pass ≡ pass_id l.initial.pass) × WereReadIdle 0 l.number (pass_view l.initial.pass) (pass_view l.pass)
