use Rattle.std.proofs.Common.{◌≡◌, ◌++◌, drop}
use Rattle.toml.specs.View.{items_view}
use Rattle.mb_scenario.specs.Plans.{planned_rank}
use Rattle.mb_scenario.specs.Fields.{map_items}
use Rattle.mb_scenario.proofs.actors.ranks_of.Given as goal

-- those so far and those that are left are all
abbrev pub invariant-loop-value : goal.invariant-loop-value
invariant-loop-value l =
    l.rows.items ++ map_items planned_rank (items_view (drop l.value-index l.values)) ≡ map_items planned_rank (items_view l.values)
