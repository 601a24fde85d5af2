use Rattle.std.proofs.Common.{◌≡◌, ◌++◌, drop, map, string_bytes}
use Rattle.toml.specs.View.{items_view}
use Rattle.mb_scenario.specs.Plans.{name_of}
use Rattle.mb_scenario.specs.Fields.{map_items}
use Rattle.mb_scenario.proofs.names.names_of.Given as goal

-- those so far and those that are left are all
abbrev pub invariant-loop-value : goal.invariant-loop-value
invariant-loop-value l =
    map string_bytes l.names.items ++ map_items name_of (items_view (drop l.value-index l.values)) ≡ map_items name_of (items_view l.values)
