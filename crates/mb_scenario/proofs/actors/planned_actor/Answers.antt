use Rattle.std.proofs.Common.{rules}
use Rattle.mb_scenario.proofs.actors.planned_actor.Goals as goal

pub returns : goal.returns
returns c = search rules
