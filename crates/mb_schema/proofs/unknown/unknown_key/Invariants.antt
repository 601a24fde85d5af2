use Rattle.std.proofs.Common.{◌≡◌, map}
use Rattle.toml.specs.View.{members_view}
use Rattle.mb_schema.specs.Check.{unknown_key}
use Rattle.mb_schema.specs.Format.{key_data}
use Rattle.mb_schema.proofs.unknown.unknown_key.Given as goal

-- the names so far are known
abbrev pub invariant-loop-name : goal.invariant-loop-name
invariant-loop-name l =
    (goal.iterator-loop-name).can_next l.name-iterator ×
    (goal.iterator-loop-name).is_finite l.name-iterator ×
    (unknown_key (map key_data l.keys) (members_view l.name-iterator) ≡ unknown_key (map key_data l.keys) (members_view l.table.entries))
