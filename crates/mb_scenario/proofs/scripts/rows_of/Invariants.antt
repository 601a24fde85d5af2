use Rattle.std.proofs.Common.{◌≡◌, ◌++◌, drop, map}
use Rattle.toml.specs.View.{items_view}
use Rattle.mb_schema.specs.Context.{actor_entry_data}
use Rattle.mb_script.specs.Script.{row_data}
use Rattle.mb_scenario.specs.Fields.{map_items}
use Rattle.mb_scenario.specs.Scripts.{scripted_row}
use Rattle.mb_scenario.proofs.scripts.rows_of.Given as goal

-- the rows so far and those that are left are all
abbrev pub invariant-loop-value : goal.invariant-loop-value
invariant-loop-value l =
    map row_data l.rows.items ++ map_items (scripted_row (map actor_entry_data l.actor_entries)) (items_view (drop l.value-index l.values))
    ≡ map_items (scripted_row (map actor_entry_data l.actor_entries)) (items_view l.values)
