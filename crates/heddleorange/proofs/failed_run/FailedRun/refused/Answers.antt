use Rattle.std.proofs.Common.{refl}
use Rattle.heddleorange.proofs.failed_run.FailedRun.refused.Goals as goal

pub returns-clause-untouched : goal.returns-clause-untouched
returns-clause-untouched g c = (record { plan = c.args.plan; actors = c.args.actors }, refl, refl, refl)
