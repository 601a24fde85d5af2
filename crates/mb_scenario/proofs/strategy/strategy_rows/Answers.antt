use Rattle.mb_scenario.specs.Plans.{strategy_row_of}
use Rattle.mb_scenario.proofs.Loops.{all_read, none_read, past_value}
use Rattle.mb_scenario.proofs.strategy.strategy_rows.Goals as goal

pub loop-value-preserved : goal.loop-value-preserved
loop-value-preserved c =
    past_value strategy_row_of c.args.values.now c.loop-value.value-index c.value-item.result c.loop-value.rows.items c.push.new.self.items
    c.strategy_row_of.result _ c.loop-value-test.true c.value-item.is c.strategy_row_of.ensures c.in_ok-push.ensures.items c.loop-value.invariant

pub loop-value-init : goal.loop-value-init
loop-value-init c =
    none_read strategy_row_of c.args.values.now c.new-rows.result.items c.new-rows.ensures.items

pub returns : goal.returns
returns c =
    let at = c.loop-value in
    all_read strategy_row_of c.args.values.now at.value-index at.rows.items _ c.loop-value-test.false at.invariant
