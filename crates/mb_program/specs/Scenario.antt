-- What the report of a scenario tells of.
use Rattle.std.specs.Prelude.{◌≡◌, length}
use Rattle.mb_msg.specs.declared.plan.Plan.{Plan}
use Rattle.mb_scenario.specs.Plans.{ScenarioData}
use Rattle.mb_script.specs.declared.script.Script.{Script}
use Rattle.mb_scenario.specs.View.{plan_data}
use Rattle.mb_report.specs.declared.report.Report.{Report}
use Rattle.heddleorange.specs.NoReport.{IsErrorOfRun}
use Rattle.heddleorange.specs.Orders.{lists_of}
use Rattle.heddleorange.specs.RunHeadline.{RunHeadline}
use Rattle.heddleorange.specs.WholeRun.{IsReportOfRun}
use Rattle.heddleorange.specs.declared.failed_run.FailedRun.{FailedRun}
use Rattle.mb_streams.specs.declared.fault.RunFault.{RunFault}
use Rattle.mb_program.specs.Faults.{IsFaultOf}
use Rattle.mb_program.specs.Scripts.{after_by_scripts, gives_by_scripts}

-- The report tells of the actors of the scenario's plan, each of which does what its script says, and of the scenario's senders, each of which sent
-- what the scenario says of it. The headline holds of it.
pub record IsOfScenario (scenario : ScenarioData) (report : Report) : Type 0 where
  pub plan : Plan
  pub planned : plan_data plan ≡ scenario.plan
  pub ran : IsReportOfRun (after_by_scripts scenario.scripts) (gives_by_scripts scenario.scripts) plan (lists_of plan.senders scenario.sends) report
  pub headline : RunHeadline plan (lists_of plan.senders scenario.sends) report

-- A run of the actors of the scenario's plan, each of which does what its script says, failed with an error of which this fault tells.
pub record EndsIn (scenario : ScenarioData) (fault : RunFault) : Type 0 where
  pub plan : Plan
  pub planned : plan_data plan ≡ scenario.plan
  pub failed : FailedRun Script
  pub of_run : IsErrorOfRun (gives_by_scripts scenario.scripts) plan (length scenario.scripts) (lists_of plan.senders scenario.sends) failed
  pub told : IsFaultOf failed.error fault
