use Rattle.std.proofs.Common.{◌≡◌, List, ap, length, map, subst, sym, take, ◌∙◌}
use Rattle.std.proofs.lemmas.List.{nil_from_length}
use Rattle.std.specs.Vec.Iter.{into_iter_items}
use Rattle.mb_msg.specs.declared.actor_plan.ActorPlan.{ActorPlan}
use Rattle.heddleorange.specs.AddedAll.{names_behind}
use Rattle.heddleorange.specs.declared.unused.Unused.{Unused}
use Rattle.heddleorange.proofs.AddingAll.{SoFar, all-added, none-added, none-yet, one-more-default}
use Rattle.heddleorange.proofs.new_system.NewSystem.add_all.Goals as goal

pub loop-plan-init : goal.loop-plan-init
loop-plan-init g c =
    let old = c.args.self.now.system in
    let plans = map (λ given. given.0) c.args.actors.items in
    let same = c.into_iter-plan-iterator.ensures.into_iter_gives.0 in
    none-yet old plans (map (λ given. given.1.actor) c.args.actors.items) (names_behind (length old.actors.items) plans) _ _ _ (ap (map (λ given. given.0)) same)
    (ap (map (λ given. given.1.actor)) same) (ap (λ l. names_behind (length old.actors.items) (map (λ given. given.0) l)) same)

pub loop-plan-preserved : goal.loop-plan-preserved
loop-plan-preserved g c =
    let Given = ActorPlan × Unused g.row.A.Denot g.A.Actor in
    let left = into_iter_items c.next.new.self in
    let plans_of = λ (given : List Given). map (λ given. given.0) given in
    let actors_of = λ (given : List Given). map (λ given. given.1.actor) given in
    let old = c.args.self.now.system in
    let now = c.loop-plan.self.system in
    let all = c.args.actors.items in
    let names = names_behind (length old.actors.items) (plans_of all) in
    one-more-default old (plans_of all) (actors_of all) names now c.add.new.self.system c.in-Some.plan c.in-Some.actor.actor (plans_of left) (actors_of left)
    c.in_default.field-0
    (subst (λ (l : List Given). SoFar old (plans_of all) (actors_of all) names (plans_of l) (actors_of l) (names_behind (length now.actors.items) (plans_of l)) now)
    c.in-Some.ensures.steps.0 c.loop-plan.invariant)
    c.in_default.ensures.added c.in_default.ensures.settings c.in_default.ensures.refused

pub returns-in-Err-clause-added : goal.returns-in-Err-clause-added
returns-in-Err-clause-added g c =
    let Given = ActorPlan × Unused g.row.A.Denot g.A.Actor in
    let left = into_iter_items c.next.new.self in
    let plans_of = λ (given : List Given). map (λ given. given.0) given in
    let actors_of = λ (given : List Given). map (λ given. given.1.actor) given in
    let old = c.args.self.now.system in
    let now = c.loop-plan.self.system in
    let all = c.args.actors.items in
    let names = names_behind (length old.actors.items) (plans_of all) in
    let before : c.len-there.result ≡ length old.actors.items = c.len-there.ensures ∙ old.actors.ok.0 in
    none-added old (plans_of all) (actors_of all) names now c.add.new.self.system c.keep_first.new.self c.in-Some.plan c.in-Some.actor.actor (plans_of left)
    (actors_of left) _ c.in-Err.error
    (subst (λ (l : List Given). SoFar old (plans_of all) (actors_of all) names (plans_of l) (actors_of l) (names_behind (length now.actors.items) (plans_of l)) now)
    c.in-Some.ensures.steps.0 c.loop-plan.invariant)
    c.in-Err.ensures.unchanged c.in-Err.ensures.settings c.in-Err.ensures.refused
    (c.keep_first.ensures.actors ∙ ap (λ n. take n c.add.new.self.system.actors.items) before)
    (c.keep_first.ensures.planned ∙ ap (λ n. take n c.add.new.self.system.plan.actors.items) before)
    (c.keep_first.ensures.named ∙ ap (λ n. take n c.add.new.self.system.names.texts.items) before)
    c.keep_first.ensures.settings

pub returns-clause-added : goal.returns-clause-added
returns-clause-added g c =
    let Given = ActorPlan × Unused g.row.A.Denot g.A.Actor in
    let plans_of = λ (given : List Given). map (λ given. given.0) given in
    let actors_of = λ (given : List Given). map (λ given. given.1.actor) given in
    let old = c.args.self.now.system in
    let now = c.loop-plan.self.system in
    let all = c.args.actors.items in
    let names = names_behind (length old.actors.items) (plans_of all) in
    let none : length (into_iter_items c.loop-plan.plan-iterator) ≡ 0 = sym c.loop-plan.plan-iterator.rest.ok.0 ∙ c.in-None.ensures.steps.0 in
    all-added old (plans_of all) (actors_of all) names _ now
    (subst (λ (l : List Given). SoFar old (plans_of all) (actors_of all) names (plans_of l) (actors_of l) (names_behind (length now.actors.items) (plans_of l)) now)
    (nil_from_length _ none) c.loop-plan.invariant)
