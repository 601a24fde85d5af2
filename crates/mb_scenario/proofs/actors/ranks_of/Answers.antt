use Rattle.std.proofs.Common.{arith}
use Rattle.std.proofs.lemmas.Grind.{common_steps}
use Rattle.mb_scenario.specs.Plans.{planned_rank}
use Rattle.mb_scenario.proofs.Loops.{all_read, none_read}
use Rattle.mb_scenario.proofs.actors.ranks_of.Goals as goal

pub loop-value-preserved : goal.loop-value-preserved
loop-value-preserved c = grind (arith, common_steps)

pub loop-value-init : goal.loop-value-init
loop-value-init c =
    none_read planned_rank c.args.values.now c.new-rows.result.items c.new-rows.ensures.items

pub returns : goal.returns
returns c =
    let at = c.loop-value in
    all_read planned_rank c.args.values.now at.value-index at.rows.items _ c.loop-value-test.false at.invariant
