-- What the turns tell that are answered beside the report of a quiet run (this project's own profile: Akka's dispatchers tell no turns).
use Rattle.std.specs.Prelude.{◌≡◌}
use Rattle.mb_dispatch.specs.Runs.{turns_in}
use Rattle.mb_dispatch.specs.declared.turns.Turns.{Turns}
use Rattle.mb_msg.specs.JournalMode.{retention_of}
use Rattle.mb_msg.specs.declared.plan.Plan.{Plan}
use Rattle.mb_report.specs.declared.report.Report.{Report}
use Rattle.heddleorange.specs.Turns.{AreStretches, AreTurnsOf, CoverJournals}

-- The turns of a quiet run of this plan are of the plan's actors and within its throughput. In the report they are stretches of the journals, and cover
-- them. As many are kept as the plan's journals keep of their entries.
pub record TellsTurns (plan : Plan) (report : Report) (made : Turns) : Type 0 where
  pub turns : AreTurnsOf plan (turns_in made)
  pub stretches : AreStretches report (turns_in made)
  pub covers : CoverJournals report (turns_in made)
  pub kept_turns : made.list.retention ≡ retention_of plan.journal
