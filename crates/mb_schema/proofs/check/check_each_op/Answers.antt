use Rattle.std.proofs.Common.{◌≡◌, ◌+◌, ◌++◌, None, Option, option_map, subst}
use Rattle.mb_schema.specs.Check.{at, op_check}
use Rattle.mb_schema.specs.Context.{context_data}
use Rattle.mb_schema.specs.Location.{entry_text, path_text}
use Rattle.mb_schema.specs.declared.finding.Reason.{Reason}
use Rattle.mb_schema.proofs.Loops.{past_item}
use Rattle.mb_schema.proofs.check.check_each_op.Goals as goal

pub loop-index-preserved : goal.loop-index-preserved
loop-index-preserved c =
    let before = path_text c.args.path ++ c.args.name.now in
    past_item (op_check (context_data c.args.context.now) c.args.adds before) c.args.values.now c.loop-index.index
    c.index-values-index.result _ c.loop-index-test.true c.index-values-index.is
    (subst (λ (reason : Option Reason). option_map (at (entry_text before (c.loop-index.index + 1))) reason ≡ None) c.reason_of_op.ensures
    c.in_ok-report.ensures)
    c.loop-index.invariant
