-- What a plan says beside its actors.
use Rattle.std.specs.Prelude.{◌≡◌}
use Rattle.mb_msg.specs.declared.plan.Plan.{Plan}
use Rattle.heddleorange.specs.declared.planned_system.Settings.{Settings}

-- The plan has these settings.
pub record HasSettings (settings : Settings) (plan : Plan) : Type 0 where
  pub throughput : plan.throughput ≡ settings.throughput
  pub workers : plan.workers ≡ settings.workers
  pub pool : plan.pool ≡ settings.pool
  pub senders : plan.senders ≡ settings.senders
  pub journal : plan.journal ≡ settings.journal
  pub journal_limit : plan.journal_limit ≡ settings.journal_limit
