use Rattle.std.proofs.Common.{◌≡◌, ◌+◌, ◌++◌, ◌∷◌, [], length, sym, ap, ◌∙◌, subst, append-nil, arith}
use Rattle.std.specs.Vec.Iter.{into_iter_items}
use Rattle.std.proofs.lemmas.List.{length_push, nil_from_length}
use Rattle.std.proofs.lemmas.Result.{IfOk-from_err}
use Rattle.mb_build.specs.BehavesAsPlanned.{BehaveAsPlanned}
use Rattle.mb_build.proofs.CellLemmas.{cell-more, cells_from}
use Rattle.mb_build.proofs.cells.add_cells.Goals as goal

pub loop-actor-init : goal.loop-actor-init
loop-actor-init g c =
    let parents = c.args.parents.now in let cells = c.args.cells.now.items in let mode = c.args.journal in let limit = c.args.journal_limit in
    let plans = c.into_iter-plans.ensures.rest in let all = c.into_iter-actor-iterator.ensures.into_iter_gives.0 in
    let one = c.requires.within_limit.0 in let many = c.requires.same_count in let more = many.1 in let actors = ap length all in record {
      whole = ap (λ n. cells ++ cells_from (length parents + 1) mode limit parents n (into_iter_items c.into_iter-plans.result)) one
          ∙ ap (λ l. cells ++ cells_from (length parents + 1) mode limit parents 1 l) plans;
      as_many = ap length plans ∙ many.0 ∙ sym many.1 ∙ sym actors;
      left = omega (arith, one, more, actors);
      room = c.requires.room;
      behaved = subst (BehaveAsPlanned g.A.Actor.content g.A.Actor.after g.A.Actor.gives g.K.Behaviours.after g.K.Behaviours.gives (length cells))
          (sym all)
          (subst (λ n. BehaveAsPlanned g.A.Actor.content g.A.Actor.after g.A.Actor.gives g.K.Behaviours.after g.K.Behaviours.gives n c.args.actors.items)
          (sym one) c.requires.behaved);
    }

pub add_cell-requires : goal.add_cell-requires
add_cell-requires g c =
    let at = c.loop-actor in let rest = into_iter_items c.next.new.self in
    let steps : into_iter_items at.actor-iterator ≡ c.in-Some.actor ∷ rest = c.in-Some.ensures.steps.0 in
    let one = ap length steps in let left = at.invariant.left in let few = c.requires.within_limit.1 in
    let room = at.invariant.room in record {
      within_limit = (omega (arith, left, one, few), few, c.requires.within_limit.2);
      room = omega (arith, left, one, room);
      behaved = (subst (BehaveAsPlanned g.A.Actor.content g.A.Actor.after g.A.Actor.gives g.K.Behaviours.after g.K.Behaviours.gives
          (length at.cells.items)) steps at.invariant.behaved).0;
    }

pub loop-actor-preserved : goal.loop-actor-preserved
loop-actor-preserved g c =
    let at = c.loop-actor in let actor = c.in-Some.actor in let rest = into_iter_items c.next.new.self in
    let parents = c.args.parents.now in let new = c.add_cell.new.cells.items in let after = into_iter_items c.next-in-loop-actor.new.self in
    let steps : into_iter_items at.actor-iterator ≡ actor ∷ rest = c.in-Some.ensures.steps.0 in
    let lines : into_iter_items at.plans ≡ c.in-Some-next.plan ∷ after = c.in-Some-next.ensures.items in
    let pushed = c.in_ok-add_cell.ensures.cell in
    let next : length new ≡ length at.cells.items + 1 = ap length pushed ∙ length_push at.cells.items _ in
    let as_many = at.invariant.as_many in let left = at.invariant.left in let one = ap length steps in let other = ap length lines in
    let behaved = subst (BehaveAsPlanned g.A.Actor.content g.A.Actor.after g.A.Actor.gives g.K.Behaviours.after g.K.Behaviours.gives
    (length at.cells.items)) steps at.invariant.behaved in record {
      whole = cell-more (length parents + 1) c.args.journal c.args.journal_limit parents (length at.cells.items) (length new) c.in-Some-next.plan
          (into_iter_items at.plans) after at.cells.items new _ lines next pushed at.invariant.whole;
      as_many = omega (arith, as_many, one, other);
      left = omega (arith, left, one, next);
      room = c.in_ok-add_cell.ensures.room ∙ at.invariant.room;
      behaved = subst (λ n. BehaveAsPlanned g.A.Actor.content g.A.Actor.after g.A.Actor.gives g.K.Behaviours.after g.K.Behaviours.gives n rest)
          (sym next) behaved.1;
    }

pub returns : goal.returns
returns g c =
    let at = c.loop-actor in let parents = c.args.parents.now in
    let none : into_iter_items at.actor-iterator ≡ [] =
    nil_from_length (into_iter_items at.actor-iterator) (sym at.actor-iterator.rest.ok.0 ∙ c.in-None.ensures.steps.0) in
    let over : into_iter_items at.plans ≡ [] = nil_from_length (into_iter_items at.plans) (at.invariant.as_many ∙ ap length none) in
    sym (append-nil at.cells.items)
    ∙ ap (λ l. at.cells.items ++ cells_from (length parents + 1) c.args.journal c.args.journal_limit parents (length at.cells.items) l) (sym over)
    ∙ at.invariant.whole

pub returns-in_err-add_cell : goal.returns-in_err-add_cell
returns-in_err-add_cell g c = IfOk-from_err c.from_residual.result _ c.from_residual.ensures.0
