use Rattle.std.proofs.Common.{◌≡◌, drop, map}
use Rattle.mb_schema.specs.Check.{has_key}
use Rattle.mb_schema.specs.Format.{key_data}
use Rattle.mb_schema.proofs.unknown.has_key.Given as goal

-- the keys so far have other names
abbrev pub invariant-loop-key : goal.invariant-loop-key
invariant-loop-key l = has_key (map key_data (drop l.key-index l.keys)) l.name ≡ has_key (map key_data l.keys) l.name
