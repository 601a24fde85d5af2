use Rattle.std.proofs.Common.{◌≡◌, ◌+◌, ◌∷◌, get_or, drop, length, pos, vec_capacity, vec_len, arith}
use Rattle.std.proofs.lemmas.List.{drop_all}
use Rattle.mb_actor.specs.declared.effect.Effect.{Effect}
use Rattle.mb_actor.specs.declared.effect.Effect.TheVariants as effect
use Rattle.mb_supervision.proofs.EffectLemmas.{acts-step, children-step, watching-step, due-step}
use Rattle.mb_supervision.proofs.EffectLemmas.{acts-done, children-done, watching-done, due-done, from-next, act-fits, place-fits}
use Rattle.mb_supervision.proofs.effects.carry_out.Goals as goal

-- the effect that is carried out
abbrev the_effect : (c : goal.After-carry_out_one) → Effect
the_effect c = get_or c.args.effects.now c.loop-effect.effect-index (effect.Tell (record { 0 = 0 }) 0 (pos 0))

next : (c : goal.After-carry_out_one) →
    drop c.loop-effect.effect-index c.args.effects.now ≡ the_effect c ∷ drop (c.loop-effect.effect-index + 1) c.args.effects.now
next c = from-next c.args.effects.now c.loop-effect.effect-index _ c.loop-effect-test.true

pub loop-effect-preserved : goal.loop-effect-preserved
loop-effect-preserved c = record {
  acts =
      acts-step c.args.this _ _ _ _ _ (the_effect c) _ _ c.carry_out_one.ensures.carried_out.acts c.carry_out_one.ensures.carried_out.watching (next c)
      c.loop-effect.invariant.acts;
  children = children-step _ _ _ (the_effect c) _ _ c.carry_out_one.ensures.carried_out.children (next c) c.loop-effect.invariant.children;
  watching = watching-step c.args.this _ _ _ (the_effect c) _ _ c.carry_out_one.ensures.carried_out.watching (next c) c.loop-effect.invariant.watching;
  due = due-step _ _ _ (the_effect c) _ _ c.carry_out_one.ensures.carried_out.due (next c) c.loop-effect.invariant.due;
  few_acts = omega arith;
  few_children = omega arith;
  few_watched = omega arith;
  children_capacity = omega arith;
  watching_capacity = omega arith;
}

pub returns-clause-carried_out : goal.returns-clause-carried_out
returns-clause-carried_out c =
    let none = drop_all _ _ c.loop-effect-test.false in record {
      acts = acts-done c.args.this _ _ _ _ none c.loop-effect.invariant.acts;
      children = children-done _ _ _ none c.loop-effect.invariant.children;
      watching = watching-done c.args.this _ _ _ none c.loop-effect.invariant.watching;
      due = due-done _ _ _ none c.loop-effect.invariant.due;
    }

pub carry_out_one-requires-clause-room : goal.carry_out_one-requires-clause-room
carry_out_one-requires-clause-room c =
    act-fits c.args.acts.now.room c.loop-effect.acts.room c.loop-effect.effect-index (length c.args.effects.now) c.loop-effect.invariant.few_acts
    c.requires.room c.loop-effect-test.true

pub carry_out_one-requires-clause-children_room : goal.carry_out_one-requires-clause-children_room
carry_out_one-requires-clause-children_room c =
    place-fits (vec_len c.args.children.now) (vec_len c.loop-effect.children) c.loop-effect.effect-index (length c.args.effects.now)
    (vec_capacity c.args.children.now) (vec_capacity c.loop-effect.children) c.loop-effect.invariant.few_children c.requires.children_room
    c.loop-effect.invariant.children_capacity c.loop-effect-test.true

pub carry_out_one-requires-clause-watching_room : goal.carry_out_one-requires-clause-watching_room
carry_out_one-requires-clause-watching_room c =
    place-fits (vec_len c.args.watching.now) (vec_len c.loop-effect.watching) c.loop-effect.effect-index (length c.args.effects.now)
    (vec_capacity c.args.watching.now) (vec_capacity c.loop-effect.watching) c.loop-effect.invariant.few_watched c.requires.watching_room
    c.loop-effect.invariant.watching_capacity c.loop-effect-test.true
