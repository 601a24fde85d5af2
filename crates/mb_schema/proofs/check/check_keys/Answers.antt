use Rattle.std.proofs.lemmas.Result.{err_from_is_err_and}
use Rattle.toml.specs.View.{table_view}
use Rattle.mb_schema.specs.Check.{key_check}
use Rattle.mb_schema.specs.Context.{context_data}
use Rattle.mb_schema.specs.Location.{path_text}
use Rattle.mb_schema.proofs.Loops.{at_key, past_key}
use Rattle.mb_schema.proofs.check.check_keys.Goals as goal

pub loop-key-preserved : goal.loop-key-preserved
loop-key-preserved c =
    past_key (key_check (path_text c.args.path) (context_data c.args.context.now) (table_view c.args.table.now))
    c.args.keys.now c.loop-key.key-index _ _ c.loop-key-test.true c.in_ok-check_key.ensures c.loop-key.invariant

pub returns-in_err-check_key : goal.returns-in_err-check_key
returns-in_err-check_key c =
    let p = err_from_is_err_and c.from_residual.result c.from_residual.ensures.1 in
    at_key (key_check (path_text c.args.path) (context_data c.args.context.now) (table_view c.args.table.now))
    c.args.keys.now c.loop-key.key-index _ _ c.from_residual.result c.in_err-check_key.field-0.0 p.0 c.loop-key-test.true
    c.in_err-check_key.ensures c.loop-key.invariant p.1 p.2
