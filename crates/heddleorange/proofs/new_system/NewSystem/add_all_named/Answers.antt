use Rattle.std.proofs.Common.{◌≡◌, ℕ, List, ap, length, map, subst, take, ◌∙◌}
use Rattle.std.specs.Borrow.{Bor}
use Rattle.std.specs.Vec.Iter.{into_iter_items}
use Rattle.mb_msg.specs.declared.actor_plan.ActorPlan.{ActorPlan}
use Rattle.heddleorange.specs.declared.unused.Unused.{Unused}
use Rattle.heddleorange.proofs.AddingAll.{SoFar, Untaken, none-added, one-added, one-free, one-taken}
use Rattle.heddleorange.proofs.new_system.NewSystem.add_all_named.Goals as goal

pub loop-name-preserved : goal.loop-name-preserved
loop-name-preserved g c =
    let Given = Bor (List ℕ) × ActorPlan × Unused g.row.A.Denot g.A.Actor in
    let plans_of = λ (given : List Given). map (λ given. given.1) given in
    let actors_of = λ (given : List Given). map (λ given. given.2.actor) given in
    let names_of = λ (given : List Given). map (λ given. given.0.now) given in
    let old = c.args.self.now.system in
    let now = c.loop-name.self.system in
    let all = c.args.actors.items in
    let left = into_iter_items c.next.new.self in
    let steps = c.in-Some.ensures.steps.0 in
    let before = c.loop-name.invariant in (
      one-added old (plans_of all) (actors_of all) (names_of all) now c.add_named.new.self.system c.in-Some.plan c.in-Some.actor.actor c.in-Some.name.now
          (plans_of left) (actors_of left) (names_of left) c.in_default.field-0
          (subst (λ (l : List Given). SoFar old (plans_of all) (actors_of all) (names_of all) (plans_of l) (actors_of l) (names_of l) now) steps before.0)
          c.in_default.ensures.added c.in_default.ensures.settings c.in_default.ensures.refused,
      one-free old now c.add_named.new.self.system c.in-Some.plan c.in-Some.actor.actor c.in-Some.name.now (names_of all) (names_of left) c.in_default.field-0
          (subst (λ (l : List Given). Untaken old (names_of all) (names_of l) now) steps before.1) c.in_default.ensures.added c.in_default.ensures.refused
          c.in_default.ensures.taken,
    )

pub returns-in-Err-clause-added : goal.returns-in-Err-clause-added
returns-in-Err-clause-added g c =
    let Given = Bor (List ℕ) × ActorPlan × Unused g.row.A.Denot g.A.Actor in
    let plans_of = λ (given : List Given). map (λ given. given.1) given in
    let actors_of = λ (given : List Given). map (λ given. given.2.actor) given in
    let names_of = λ (given : List Given). map (λ given. given.0.now) given in
    let old = c.args.self.now.system in
    let now = c.loop-name.self.system in
    let all = c.args.actors.items in
    let left = into_iter_items c.next.new.self in
    let before : c.len-before.result ≡ length old.actors.items = c.len-before.ensures ∙ old.actors.ok.0 in
    none-added old (plans_of all) (actors_of all) (names_of all) now c.add_named.new.self.system c.keep_first.new.self c.in-Some.plan c.in-Some.actor.actor
    (plans_of left) (actors_of left) _ c.in-Err.error
    (subst (λ (l : List Given). SoFar old (plans_of all) (actors_of all) (names_of all) (plans_of l) (actors_of l) (names_of l) now) c.in-Some.ensures.steps.0
    c.loop-name.invariant.0)
    c.in-Err.ensures.unchanged c.in-Err.ensures.settings c.in-Err.ensures.refused
    (c.keep_first.ensures.actors ∙ ap (λ n. take n c.add_named.new.self.system.actors.items) before)
    (c.keep_first.ensures.planned ∙ ap (λ n. take n c.add_named.new.self.system.plan.actors.items) before)
    (c.keep_first.ensures.named ∙ ap (λ n. take n c.add_named.new.self.system.names.texts.items) before)
    c.keep_first.ensures.settings

pub returns-in-Err-clause-taken : goal.returns-in-Err-clause-taken
returns-in-Err-clause-taken g c = λ id is.
    let Given = Bor (List ℕ) × ActorPlan × Unused g.row.A.Denot g.A.Actor in
    let names_of = λ (given : List Given). map (λ given. given.0.now) given in
    let old = c.args.self.now.system in
    let now = c.loop-name.self.system in
    let all = c.args.actors.items in
    let left = into_iter_items c.next.new.self in
    let found = (c.in-Err.ensures.taken id).0 (cc) in
    one-taken old now c.in-Some.name.now (names_of all) (names_of left) id
    (subst (λ (l : List Given). Untaken old (names_of all) (names_of l) now) c.in-Some.ensures.steps.0 c.loop-name.invariant.1) found.2
