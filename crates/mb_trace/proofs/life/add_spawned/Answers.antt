use Rattle.std.proofs.Common.{pos, arith}
use Rattle.mb_actor.specs.declared.effect.Effect.TheVariants as effect
use Rattle.mb_trace.proofs.Spawned.{spawned-more}
use Rattle.mb_trace.proofs.life.add_spawned.Goals as goal

pub loop-effect-preserved : goal.loop-effect-preserved
loop-effect-preserved c = record {
  items =
      spawned-more _ _ _ c.args.effects.now c.loop-effect.effect-index (effect.Tell (record { 0 = 0 }) 0 (pos 0)) c.loop-effect-test.true
      c.loop-effect.invariant.items c.add_one.ensures.items;
  len = omega (arith, c.add_one.ensures.one_more, c.loop-effect.invariant.len);
  capacity = omega (arith, c.add_one.ensures.capacity, c.loop-effect.invariant.capacity);
}
