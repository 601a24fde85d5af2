use Rattle.std.proofs.Common.{◌≡◌, map, take, string_bytes}
use Rattle.serde_json.specs.View.{view}
use Rattle.mb_trace_json.specs.Effects.{effect_data}
use Rattle.mb_trace_json.proofs.effect.effects_value.Given as goal

-- the values so far are those of the effects so far
abbrev pub invariant-loop-effect : goal.invariant-loop-effect
invariant-loop-effect l = map view l.values.items ≡ map (effect_data (map string_bytes l.names)) (take l.effect-index l.effects)
