-- What a contract sees of the effects in an outbox.
use Rattle.std.specs.Prelude.{List}
use Rattle.mb_actor.specs.declared.effect.Effect.{Effect}

-- the effects, in order
pub record EffectListView : Type 0 where
  pub items : List Effect
