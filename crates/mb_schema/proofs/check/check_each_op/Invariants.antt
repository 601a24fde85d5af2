use Rattle.std.proofs.Common.{◌≡◌, ◌++◌, drop}
use Rattle.toml.specs.View.{items_view}
use Rattle.mb_schema.specs.Check.{each, each_from, op_check}
use Rattle.mb_schema.specs.Context.{context_data}
use Rattle.mb_schema.specs.Location.{first, path_text}
use Rattle.mb_schema.proofs.check.check_each_op.Given as goal

-- with the operations so far nothing is wrong
abbrev pub invariant-loop-index : goal.invariant-loop-index
invariant-loop-index l =
    first (each_from l.index (op_check (context_data l.context) l.adds (path_text l.path ++ l.name)) (items_view (drop l.index l.values)))
    ≡ first (each (op_check (context_data l.context) l.adds (path_text l.path ++ l.name)) (items_view l.values))
