-- What a run of a scenario's text came to (this project's own profile).
use Rattle.std.specs.Prelude.{◌≡◌, ℕ, ◌+◌, IfSome, List, is_some, length}
use Rattle.mb_dispatch.specs.Runs.{turns_in}
use Rattle.heddleorange.specs.Turns.{CoverJournals}
use Rattle.mb_scenario.specs.Plans.{ScenarioData}
use Rattle.mb_scenario.specs.Reading.{IsReadAs}
use Rattle.mb_program.specs.Scenario.{IsOfScenario}
use Rattle.mb_program.specs.declared.running.FinishedRun.{FinishedRun}

-- The text is a scenario, its actors beside the guardian have these names, and the report is that of a run of it, with a line for each actor. The
-- turns are there exactly where the scenario says that the run is quiet. Each journal then has the entries of its actor's turns and no others, turn
-- after turn.
pub record IsRunOf (text : List ℕ) (names : List (List ℕ)) (run : FinishedRun) : Type 0 where
  pub scenario : ScenarioData
  pub read : IsReadAs text scenario
  pub named : names ≡ scenario.names
  pub ran : IsOfScenario scenario run.report
  pub same_count : length run.report.actors.items ≡ length names + 1
  pub quiet : is_some run.turns ≡ scenario.quiet
  pub covers : IfSome run.turns (λ turns. CoverJournals run.report (turns_in turns))
