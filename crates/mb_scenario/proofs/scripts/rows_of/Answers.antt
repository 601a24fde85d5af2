use Rattle.std.proofs.Common.{ap, map}
use Rattle.mb_schema.specs.Context.{actor_entry_data}
use Rattle.mb_script.specs.Script.{row_data}
use Rattle.mb_scenario.specs.Scripts.{scripted_row}
use Rattle.mb_scenario.proofs.Loops.{all_read, none_read, past_seen}
use Rattle.mb_scenario.proofs.scripts.rows_of.Goals as goal

pub loop-value-preserved : goal.loop-value-preserved
loop-value-preserved c =
    past_seen row_data (scripted_row (map actor_entry_data c.args.actor_entries.now)) c.args.values.now c.loop-value.value-index c.value-item.result c.loop-value.rows.items
    c.push.new.self.items c.in_ok-row.row _ c.loop-value-test.true c.value-item.is c.in_ok-row.ensures c.in_ok-push.ensures.items
    c.loop-value.invariant

pub loop-value-init : goal.loop-value-init
loop-value-init c =
    none_read (scripted_row (map actor_entry_data c.args.actor_entries.now)) c.args.values.now (map row_data c.new-rows.result.items) (ap (map row_data) c.new-rows.ensures.items)

pub returns : goal.returns
returns c =
    let at = c.loop-value in
    all_read (scripted_row (map actor_entry_data c.args.actor_entries.now)) c.args.values.now at.value-index (map row_data at.rows.items) _ c.loop-value-test.false at.invariant
