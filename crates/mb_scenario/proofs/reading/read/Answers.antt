use Rattle.std.proofs.Common.{arith, rules}
use Rattle.toml.specs.View.{table_view}
use Rattle.mb_scenario.proofs.Refusals.{refused_in}
use Rattle.mb_scenario.proofs.reading.read.Goals as goal

pub returns-in-Ok-clause-refused : goal.returns-in-Ok-clause-refused
returns-in-Ok-clause-refused c = refused_in c.args.text.now (table_view c.in-Ok.document) c.scenario_of.result
    (record { short = omega arith; utf8 = search rules; parsed = search rules }) c.scenario_of.ensures.refused
