use Rattle.std.proofs.Common.{◌++◌}
use Rattle.mb_schema.specs.Check.{row_check}
use Rattle.mb_schema.specs.Context.{context_data}
use Rattle.mb_schema.specs.Location.{path_text}
use Rattle.mb_schema.specs.declared.path.Path.TheVariants.{Actor}
use Rattle.mb_schema.proofs.Loops.{past_item}
use Rattle.mb_schema.proofs.actors.check_rows.Goals as goal

pub loop-index-preserved : goal.loop-index-preserved
loop-index-preserved c =
    past_item (row_check (context_data c.args.context.now) c.args.rows (path_text (Actor c.args.actor) ++ c.args.name.now)) c.args.values.now c.loop-index.index
    c.index-values-index.result _ c.loop-index-test.true c.index-values-index.is c.in_ok-check_row.ensures c.loop-index.invariant
