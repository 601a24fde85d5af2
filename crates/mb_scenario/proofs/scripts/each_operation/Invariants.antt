use Rattle.std.proofs.Common.{◌≡◌, ◌++◌, drop, map}
use Rattle.toml.specs.View.{items_view}
use Rattle.mb_schema.specs.Context.{actor_entry_data}
use Rattle.mb_schema.specs.Operation.{op_of}
use Rattle.mb_schema.specs.Value.{text_of}
use Rattle.mb_scenario.specs.Fields.{map_items}
use Rattle.mb_scenario.specs.Scripts.{operation_of}
use Rattle.mb_scenario.proofs.scripts.each_operation.Given as goal

-- the operations so far and those that are left are all
abbrev pub invariant-loop-value : goal.invariant-loop-value
invariant-loop-value l =
    l.operations.items ++ map_items (λ d. operation_of (map actor_entry_data l.actor_entries) (op_of (text_of d))) (items_view (drop l.value-index l.values))
    ≡ map_items (λ d. operation_of (map actor_entry_data l.actor_entries) (op_of (text_of d))) (items_view l.values)
