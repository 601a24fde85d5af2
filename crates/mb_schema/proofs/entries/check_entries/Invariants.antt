use Rattle.std.proofs.Common.{◌≡◌, drop, map}
use Rattle.toml.specs.View.{items_view}
use Rattle.mb_schema.specs.Check.{each, each_from, part_check}
use Rattle.mb_schema.specs.Context.{actor_entry_data}
use Rattle.mb_schema.specs.Location.{first}
use Rattle.mb_schema.proofs.entries.check_entries.Given as goal

-- with the entries so far nothing is wrong
abbrev pub invariant-loop-index : goal.invariant-loop-index
invariant-loop-index l =
    first (each_from l.index (part_check l.part (map actor_entry_data l.actor_entries)) (items_view (drop l.index l.values)))
    ≡ first (each (part_check l.part (map actor_entry_data l.actor_entries)) (items_view l.values))
