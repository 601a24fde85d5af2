use Rattle.std.proofs.Common.{◌≡◌, ◌&&◌, drop, map}
use Rattle.std.specs.List.{list_any}
use Rattle.std.specs.Str.{bytes_eq}
use Rattle.mb_schema.specs.Context.{ActorEntryData, actor_entry_data}
use Rattle.mb_schema.proofs.context.Context.knows_child.Given as goal

-- those so far are no child of that name
abbrev pub invariant-loop-actor_entries : goal.invariant-loop-actor_entries
invariant-loop-actor_entries l =
    list_any (λ (k : ActorEntryData). bytes_eq k.name l.name && bytes_eq k.parent l.self.own_name.now) (map actor_entry_data (drop l.actor_entries-index l.self.actor_entries.now))
    ≡ list_any (λ (k : ActorEntryData). bytes_eq k.name l.name && bytes_eq k.parent l.self.own_name.now) (map actor_entry_data l.self.actor_entries.now)
