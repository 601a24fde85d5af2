use Rattle.std.proofs.Common.{sym, ◌∙◌, arith, map}
use Rattle.std.proofs.lemmas.List.{get_or-map, length-map, take_all, take_more_same}
use Rattle.mb_actor.specs.declared.effect.Effect.{Effect}
use Rattle.mb_actor.specs.declared.effect.Effect.TheVariants as effect
use Rattle.mb_diagram.specs.Rows.{effect_without_value}
use Rattle.mb_diagram.proofs.alike.are_like_effects.Goals as goal

pub loop-index-preserved : goal.loop-index-preserved
loop-index-preserved c =
    let left = length-map c.args.left.now effect_without_value in
    let right = length-map c.args.right.now effect_without_value in
    let same = c.if-left-right.false in
    let below = c.loop-index-test.true in
    let none : Effect = effect.Stop (record { 0 = 0 }) in
    take_more_same (map effect_without_value c.args.left.now) (map effect_without_value c.args.right.now) c.loop-index.index none
    (omega (arith, left, below)) (omega (arith, right, same, below)) c.loop-index.invariant
    (get_or-map effect_without_value c.args.left.now c.loop-index.index _ none below
    ∙ (c.is_like_effect.ensures c.if-not-is_like_effect.false
    ∙ sym (get_or-map effect_without_value c.args.right.now c.loop-index.index _ none (omega (arith, same, below)))))

pub returns : goal.returns
returns c =
    let left = length-map c.args.left.now effect_without_value in
    let right = length-map c.args.right.now effect_without_value in
    let same = c.if-left-right.false in
    λ yes. sym (take_all c.loop-index.index (map effect_without_value c.args.left.now) (omega (arith, left, c.loop-index-test.false)))
    ∙ (c.loop-index.invariant
    ∙ take_all c.loop-index.index (map effect_without_value c.args.right.now) (omega (arith, right, same, c.loop-index-test.false)))
