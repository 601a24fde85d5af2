use Rattle.std.proofs.Common.{◌≡◌, drop, map}
use Rattle.mb_schema.specs.Context.{actor_entry_data, knows}
use Rattle.mb_schema.proofs.context.has_name.Given as goal

-- those so far have other names
abbrev pub invariant-loop-one : goal.invariant-loop-one
invariant-loop-one l = knows (map actor_entry_data (drop l.one-index l.actor_entries)) l.name ≡ knows (map actor_entry_data l.actor_entries) l.name
