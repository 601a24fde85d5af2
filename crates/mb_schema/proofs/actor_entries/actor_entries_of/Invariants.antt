use Rattle.std.proofs.Common.{◌≡◌, ◌++◌, drop, map}
use Rattle.toml.specs.View.{items_view}
use Rattle.mb_schema.specs.Check.{actor_entries_of}
use Rattle.mb_schema.specs.Context.{actor_entry_data}
use Rattle.mb_schema.proofs.actor_entries.actor_entries_of.Given as goal

-- those so far and those that are left are all
abbrev pub invariant-loop-value : goal.invariant-loop-value
invariant-loop-value l =
    map actor_entry_data l.actor_entries.items ++ actor_entries_of (items_view (drop l.value-index l.actors)) ≡ actor_entries_of (items_view l.actors)
