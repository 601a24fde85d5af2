use Rattle.std.proofs.Common.{ap, map}
use Rattle.mb_schema.specs.Context.{actor_entry_data}
use Rattle.mb_scenario.specs.View.{actor_data}
use Rattle.mb_scenario.specs.Plans.{planned_actor}
use Rattle.mb_scenario.proofs.Loops.{all_read, none_read, past_seen}
use Rattle.mb_scenario.proofs.actors.actors_of.Goals as goal

pub loop-value-preserved : goal.loop-value-preserved
loop-value-preserved c =
    past_seen actor_data (planned_actor (map actor_entry_data c.args.actor_entries.now)) c.args.values.now c.loop-value.value-index c.value-item.result c.loop-value.actors.items
    c.push.new.self.items c.in_ok-actor.actor _ c.loop-value-test.true c.value-item.is c.in_ok-actor.ensures c.in_ok-push.ensures.items
    c.loop-value.invariant

pub loop-value-init : goal.loop-value-init
loop-value-init c =
    none_read (planned_actor (map actor_entry_data c.args.actor_entries.now)) c.args.values.now (map actor_data c.new-actors.result.items) (ap (map actor_data) c.new-actors.ensures.items)

pub returns : goal.returns
returns c =
    let at = c.loop-value in
    all_read (planned_actor (map actor_entry_data c.args.actor_entries.now)) c.args.values.now at.value-index (map actor_data at.actors.items) _ c.loop-value-test.false at.invariant
