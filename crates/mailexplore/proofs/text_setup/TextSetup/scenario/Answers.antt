use Rattle.mb_scenario.specs.View.{scenario_data}
use Rattle.mailexplore.proofs.ReadLemmas.{all-unused}
use Rattle.mailexplore.proofs.text_setup.TextSetup.scenario.Goals as goal

pub copied-requires : goal.copied-requires
copied-requires c = record {
  at_start = all-unused c.self.inside.text.items (scenario_data c.self.inside.scenario) c.self.invariant;
}
