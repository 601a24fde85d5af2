use Rattle.std.proofs.Common.{◌≡◌, ◌++◌, drop}
use Rattle.toml.specs.View.{items_view}
use Rattle.mb_scenario.specs.Plans.{strategy_row_of}
use Rattle.mb_scenario.specs.Fields.{map_items}
use Rattle.mb_scenario.proofs.strategy.strategy_rows.Given as goal

-- those so far and those that are left are all
abbrev pub invariant-loop-value : goal.invariant-loop-value
invariant-loop-value l =
    l.rows.items ++ map_items strategy_row_of (items_view (drop l.value-index l.values)) ≡ map_items strategy_row_of (items_view l.values)
