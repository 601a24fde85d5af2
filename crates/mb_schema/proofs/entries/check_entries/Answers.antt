use Rattle.std.proofs.Common.{map}
use Rattle.mb_schema.specs.Check.{part_check}
use Rattle.mb_schema.specs.Context.{actor_entry_data}
use Rattle.mb_schema.proofs.Loops.{past_item}
use Rattle.mb_schema.proofs.entries.check_entries.Goals as goal

pub loop-index-preserved : goal.loop-index-preserved
loop-index-preserved c =
    past_item (part_check c.args.part (map actor_entry_data c.args.actor_entries.now)) c.args.values.now c.loop-index.index
    c.index-values-index.result _ c.loop-index-test.true c.index-values-index.is c.in_ok-check_entry.ensures c.loop-index.invariant
