use Rattle.std.proofs.Common.{◌∙◌, List, ap, map, string_bytes}
use Rattle.std.proofs.lemmas.List.{take_all}
use Rattle.serde_json.specs.Data.{Data, array}
use Rattle.serde_json.specs.View.{items_of}
use Rattle.serde_json.proofs.Views.{view-Array}
use Rattle.mb_trace_json.specs.Effects.{effect_data}
use Rattle.mb_trace_json.proofs.effect.effects_value.Goals as goal

pub returns : goal.returns
returns c =
    view-Array c.loop-effect.values
    ∙ ap (λ (ds : List Data). array (items_of ds))
    (c.loop-effect.invariant
    ∙ ap (map (effect_data (map string_bytes c.args.names.now))) (take_all c.loop-effect.effect-index c.args.effects.now c.loop-effect-test.false))
