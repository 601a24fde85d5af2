use Rattle.std.proofs.Common.{◌∙◌, refl}
use Rattle.mb_gate.specs.Accessors.{pass_view}
use Rattle.mb_shutdown.specs.Idle.{none_read}
use Rattle.mb_shutdown.proofs.Steps.{settled-more}
use Rattle.mb_shutdown.proofs.idle.first_busy.Goals as goal

pub loop-number-init : goal.loop-number-init
loop-number-init g c = (refl, none_read 0 (pass_view c.args.pass.now))

pub loop-number-preserved : goal.loop-number-preserved
loop-number-preserved g c =
    let at = c.loop-number in (
      c.is_idle.ensures.same_gates ∙ at.invariant.0,
      settled-more at.number (pass_view c.args.pass.now) (pass_view at.pass) (pass_view c.is_idle.new.pass) at.invariant.1
          c.if-not-is_idle.ensures.settled,
    )
