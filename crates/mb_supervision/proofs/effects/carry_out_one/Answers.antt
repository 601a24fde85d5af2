use Rattle.std.proofs.Common.{rules}
use Rattle.mb_journal.specs.Acts.{effect_acts}
use Rattle.mb_supervision.proofs.effects.carry_out_one.Goals as goal

pub returns-in-Unwatch-clause-carried_out : goal.returns-in-Unwatch-clause-carried_out
unfolding effect_acts
returns-in-Unwatch-clause-carried_out c = search rules

pub returns-in-Stop-clause-carried_out : goal.returns-in-Stop-clause-carried_out
unfolding effect_acts
returns-in-Stop-clause-carried_out c = search rules

pub returns-in-Spawn-clause-carried_out : goal.returns-in-Spawn-clause-carried_out
unfolding effect_acts
returns-in-Spawn-clause-carried_out c = search rules
