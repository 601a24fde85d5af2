use Rattle.std.proofs.Common.{◌≡◌, ◌+◌, drop, map}
use Rattle.mb_schema.specs.Context.{actor_entry_data}
use Rattle.mb_scenario.specs.Fields.{number_from}
use Rattle.mb_scenario.proofs.fields.id_of.Given as goal

-- those so far have other names
abbrev pub invariant-loop-index : goal.invariant-loop-index
invariant-loop-index l = number_from (l.index + 1) (map actor_entry_data (drop l.index l.actor_entries)) l.name ≡ number_from 1 (map actor_entry_data l.actor_entries) l.name
