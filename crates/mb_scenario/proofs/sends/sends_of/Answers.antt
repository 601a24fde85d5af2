use Rattle.std.proofs.Common.{map}
use Rattle.mb_schema.specs.Context.{actor_entry_data}
use Rattle.mb_scenario.specs.Sends.{send_of}
use Rattle.mb_scenario.proofs.Loops.{all_read, none_read, past_value}
use Rattle.mb_scenario.proofs.sends.sends_of.Goals as goal

pub loop-value-preserved : goal.loop-value-preserved
loop-value-preserved c =
    past_value (send_of (map actor_entry_data c.args.actor_entries.now)) c.args.values.now c.loop-value.value-index c.value-item.result c.loop-value.sends.items c.push.new.self.items
    c.send_of.result _ c.loop-value-test.true c.value-item.is c.send_of.ensures c.in_ok-push.ensures.items c.loop-value.invariant

pub loop-value-init : goal.loop-value-init
loop-value-init c =
    none_read (send_of (map actor_entry_data c.args.actor_entries.now)) c.args.values.now c.new-sends.result.items c.new-sends.ensures.items

pub returns : goal.returns
returns c =
    let at = c.loop-value in
    all_read (send_of (map actor_entry_data c.args.actor_entries.now)) c.args.values.now at.value-index at.sends.items _ c.loop-value-test.false at.invariant
