use Rattle.std.proofs.Common.{◌≡◌, drop, map}
use Rattle.toml.specs.View.{table_view}
use Rattle.mb_schema.specs.Check.{key_check}
use Rattle.mb_schema.specs.Context.{context_data}
use Rattle.mb_schema.specs.Format.{key_data}
use Rattle.mb_schema.specs.Location.{first, path_text}
use Rattle.mb_schema.proofs.check.check_keys.Given as goal

-- with the keys so far nothing is wrong
abbrev pub invariant-loop-key : goal.invariant-loop-key
invariant-loop-key l =
    first (map (key_check (path_text l.path) (context_data l.context) (table_view l.table)) (map key_data (drop l.key-index l.keys)))
    ≡ first (map (key_check (path_text l.path) (context_data l.context) (table_view l.table)) (map key_data l.keys))
