use Rattle.std.proofs.Common.{◌≡◌, ◌++◌, drop}
use Rattle.toml.specs.View.{items_view}
use Rattle.mb_schema.specs.Check.{each, each_from, row_check}
use Rattle.mb_schema.specs.Context.{context_data}
use Rattle.mb_schema.specs.Location.{first, path_text}
use Rattle.mb_schema.specs.declared.path.Path.TheVariants.{Actor}
use Rattle.mb_schema.proofs.actors.check_rows.Given as goal

-- with the tables so far nothing is wrong
abbrev pub invariant-loop-index : goal.invariant-loop-index
invariant-loop-index l =
    first (each_from l.index (row_check (context_data l.context) l.rows (path_text (Actor l.actor) ++ l.name)) (items_view (drop l.index l.values)))
    ≡ first (each (row_check (context_data l.context) l.rows (path_text (Actor l.actor) ++ l.name)) (items_view l.values))
