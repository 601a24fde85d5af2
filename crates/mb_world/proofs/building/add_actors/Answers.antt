use Rattle.std.proofs.Common.{◌≡◌, ◌+◌, ◌∷◌, [], length, sym, ap, ◌∙◌, subst, arith}
use Rattle.std.specs.Vec.Iter.{into_iter_items}
use Rattle.std.proofs.lemmas.List.{nil_from_length}
use Rattle.std.proofs.lemmas.Result.{IfOk-from_err}
use Rattle.mb_world.specs.Behaves.{BehaveFrom}
use Rattle.mb_world.specs.World.{IsNew}
use Rattle.mb_world.proofs.building.add_actors.Goals as goal

pub loop-actor-init : goal.loop-actor-init
loop-actor-init g c =
    let cells = c.args.built.now.cells.items in let one = c.requires.guardian.same_count in
    let all = c.into_iter-actor-iterator.ensures.into_iter_gives.0 in let actors = ap length all in
    let plans = ap length c.into_iter-plans.ensures.rest in let many = c.requires.same_count in let first = many.0 in let second = many.1 in record {
      so_far = subst (λ n. IsNew n cells c.args.built.now.mailboxes.items) (sym one) c.requires.guardian;
      as_many = omega (arith, plans, actors, first);
      left = omega (arith, one, actors, first, second);
      behave = subst (BehaveFrom g.A.Actor.content g.A.Actor.after g.A.Actor.gives g.K.Behaviours.after g.K.Behaviours.gives (length cells))
          (sym all)
          (subst (λ n. BehaveFrom g.A.Actor.content g.A.Actor.after g.A.Actor.gives g.K.Behaviours.after g.K.Behaviours.gives n c.args.actors.items)
          (sym one) c.requires.behave);
    }

pub add_actor-requires : goal.add_actor-requires
add_actor-requires g c =
    let at = c.loop-actor in let rest = into_iter_items c.next.new.self in
    let steps : into_iter_items at.actor-iterator ≡ c.in-Some.actor ∷ rest = c.in-Some.ensures.steps.0 in
    let one = ap length steps in let left = at.invariant.left in let few = c.requires.few.0 in record {
      so_far = at.invariant.so_far;
      few = (omega (arith, left, one, few), few, c.requires.few.1);
      behaves = (subst (BehaveFrom g.A.Actor.content g.A.Actor.after g.A.Actor.gives g.K.Behaviours.after g.K.Behaviours.gives
          (length at.built.cells.items)) steps at.invariant.behave).0;
    }

pub loop-actor-preserved : goal.loop-actor-preserved
loop-actor-preserved g c =
    let at = c.loop-actor in let actor = c.in-Some.actor in let rest = into_iter_items c.next.new.self in
    let new = c.add_actor.new.built in let after = into_iter_items c.next-in-loop-actor.new.self in
    let steps : into_iter_items at.actor-iterator ≡ actor ∷ rest = c.in-Some.ensures.steps.0 in
    let lines : into_iter_items at.plans ≡ c.in-Some-next.plan ∷ after = c.in-Some-next.ensures.items in
    let is = c.in_ok-add_actor.ensures in let next = is.same_count in
    let as_many = at.invariant.as_many in let left = at.invariant.left in let one = ap length steps in let other = ap length lines in
    let behave = subst (BehaveFrom g.A.Actor.content g.A.Actor.after g.A.Actor.gives g.K.Behaviours.after g.K.Behaviours.gives
    (length at.built.cells.items)) steps at.invariant.behave in record {
      so_far = subst (λ n. IsNew n new.cells.items new.mailboxes.items) (sym next) is;
      as_many = omega (arith, as_many, one, other);
      left = omega (arith, left, one, next);
      behave = subst (λ n. BehaveFrom g.A.Actor.content g.A.Actor.after g.A.Actor.gives g.K.Behaviours.after g.K.Behaviours.gives n rest)
          (sym next) behave.1;
    }

pub returns : goal.returns
returns g c =
    let at = c.loop-actor in
    let none : into_iter_items at.actor-iterator ≡ [] =
    nil_from_length (into_iter_items at.actor-iterator) (sym at.actor-iterator.rest.ok.0 ∙ c.in-None.ensures.steps.0) in
    let over = ap length none in let left = at.invariant.left in let many = c.requires.same_count in let first = many.0 in let second = many.1 in
    let all : length at.built.cells.items ≡ length c.args.actors.items + 1 = omega (arith, over, left, first, second) in
    subst (λ n. IsNew n at.built.cells.items at.built.mailboxes.items) all at.invariant.so_far

pub returns-in_err-add_actor : goal.returns-in_err-add_actor
returns-in_err-add_actor g c = IfOk-from_err c.from_residual.result _ c.from_residual.ensures.0
