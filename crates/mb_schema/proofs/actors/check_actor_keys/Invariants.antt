use Rattle.std.proofs.Common.{◌≡◌, drop, map}
use Rattle.toml.specs.View.{table_view}
use Rattle.mb_schema.specs.Check.{actor_key_check}
use Rattle.mb_schema.specs.Context.{context_data}
use Rattle.mb_schema.specs.Format.{key_data}
use Rattle.mb_schema.specs.Location.{first, path_text}
use Rattle.mb_schema.specs.declared.path.Path.TheVariants.{Actor}
use Rattle.mb_schema.proofs.actors.check_actor_keys.Given as goal

-- with the keys so far nothing is wrong
abbrev pub invariant-loop-key : goal.invariant-loop-key
invariant-loop-key l =
    first (map (actor_key_check (path_text (Actor l.actor)) (context_data l.context) (table_view l.table)) (map key_data (drop l.key-index l.keys)))
    ≡ first (map (actor_key_check (path_text (Actor l.actor)) (context_data l.context) (table_view l.table)) (map key_data l.keys))
