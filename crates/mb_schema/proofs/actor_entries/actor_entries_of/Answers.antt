use Rattle.mb_schema.proofs.Loops.{past_actor}
use Rattle.mb_schema.proofs.actor_entries.actor_entries_of.Goals as goal

pub loop-value-preserved : goal.loop-value-preserved
loop-value-preserved c =
    past_actor c.args.actors.now c.loop-value.value-index c.value-item.result c.loop-value.actor_entries.items c.push.new.self.items
    c.actor_entry_of.result _ c.loop-value-test.true c.value-item.is c.actor_entry_of.ensures c.in_ok-push.ensures.items c.loop-value.invariant
