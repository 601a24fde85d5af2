use Rattle.std.proofs.Common.{◌≡◌, ◌++◌, drop, map}
use Rattle.toml.specs.View.{items_view}
use Rattle.mb_schema.specs.Context.{actor_entry_data}
use Rattle.mb_scenario.specs.Fields.{map_items}
use Rattle.mb_scenario.specs.Sends.{send_of}
use Rattle.mb_scenario.proofs.sends.sends_of.Given as goal

-- those so far and those that are left are all
abbrev pub invariant-loop-value : goal.invariant-loop-value
invariant-loop-value l =
    l.sends.items ++ map_items (send_of (map actor_entry_data l.actor_entries)) (items_view (drop l.value-index l.values))
    ≡ map_items (send_of (map actor_entry_data l.actor_entries)) (items_view l.values)
