use Rattle.std.proofs.Common.{◌≡◌, ◌+◌, ◌<◌, ◌++◌, ◌∷◌, List, [], length, map, get_or, ap, ◌∙◌, rules, arith}
use Rattle.std.proofs.lemmas.List.{length_push}
use Rattle.std.proofs.lemmas.Result.{IfOk-from_err}
use Rattle.mb_cell.specs.CellView.{CellView}
use Rattle.mb_causal_order.proofs.Planned.{count, first, more}
use Rattle.mb_causal_order.proofs.planned_cells.planned_cells.Goals as goal

pub loop-index-init : goal.loop-index-init
loop-index-init c =
    let are = c.deref-2.ensures.value ∙ (c.in_ok-parents.ensures ∙ ap (map (λ a. a.parent)) c.deref.ensures.value) in
    let one : c.push.new.self.items ≡ c.in_ok-guardian.field-0 ∷ [] =
    ◌∙◌ {A = List CellView} c.in_ok-push.ensures.items (ap (λ (l : List CellView). l ++ c.in_ok-guardian.field-0 ∷ []) c.new-cells.ensures.items) in record {
      as_many = ap length one;
      each = first c.args.plan.now c.deref-2.result.now are c.push.new.self.items c.in_ok-guardian.field-0 one c.in_ok-guardian.ensures;
    }

pub loop-index-preserved : goal.loop-index-preserved
loop-index-preserved c =
    let are = c.deref-in-loop-index.ensures.value ∙ (c.in_ok-parents.ensures ∙ ap (map (λ a. a.parent)) c.deref.ensures.value) in
    let pushed = c.in_ok-push-2.ensures.items in
    let inside : c.loop-index.index < length c.args.plan.now.actors.items =
    (let n = c.len-index-end.ensures in omega (arith, n, c.loop-index-test.true)) in
    let is_p : c.index-actor.result.now ≡ get_or c.args.plan.now.actors.items c.loop-index.index c.index-actor.result.now = search rules in
    let before = c.loop-index.invariant.as_many in
    let after = ap length pushed ∙ length_push c.loop-index.cells.items c.in_ok-cell_of.field-0 in record {
      as_many = omega (arith, before, after);
      each = more c.args.plan.now c.deref-in-loop-index.result.now are c.loop-index.cells.items c.push-in-loop-index.new.self.items
          c.in_ok-cell_of.field-0 c.loop-index.index (c.loop-index.index + 1) c.index-actor.result.now before inside is_p pushed (omega arith)
          c.in_ok-cell_of.ensures c.loop-index.invariant.each;
    }

pub returns-clause-unstarted : goal.returns-clause-unstarted
returns-clause-unstarted c = c.loop-index.invariant.each

-- ---- the guardian's cell

pub guardian-requires-clause-few : goal.guardian-requires-clause-few
guardian-requires-clause-few c =
    let are = c.deref-2.ensures.value ∙ (c.in_ok-parents.ensures ∙ ap (map (λ a. a.parent)) c.deref.ensures.value) in
    let n = count c.args.plan.now c.deref-2.result.now are in let few = c.requires.few in omega (arith, n, few)

-- ---- a cell more

pub overflow_add-journal : goal.overflow_add-journal
overflow_add-journal c = let n = c.len-index-end.ensures in let test = c.loop-index-test.true in let few = c.requires.few in omega (arith, n, test, few)

pub offset_bounds-actors-index : goal.offset_bounds-actors-index
offset_bounds-actors-index c =
    let n = c.len-index-end.ensures in let test = c.loop-index-test.true in let few = c.requires.few in omega (arith, n, test, few)

pub bounds-actors-index : goal.bounds-actors-index
bounds-actors-index c = let n = c.len-index-end.ensures in let test = c.loop-index-test.true in let all = c.requires.as_many in omega (arith, n, test, all)

pub index-actor-requires : goal.index-actor-requires
index-actor-requires c = let n = c.len-index-end.ensures in let test = c.loop-index-test.true in omega (arith, n, test)

pub overflow_cast-index : goal.overflow_cast-index
overflow_cast-index c = let n = c.len-index-end.ensures in let test = c.loop-index-test.true in let few = c.requires.few in omega (arith, n, test, few)

pub overflow_add-index : goal.overflow_add-index
overflow_add-index c = let n = c.len-index-end.ensures in let test = c.loop-index-test.true in let few = c.requires.few in omega (arith, n, test, few)

pub cell_of-requires-clause-few : goal.cell_of-requires-clause-few
cell_of-requires-clause-few c =
    let are = c.deref-in-loop-index.ensures.value ∙ (c.in_ok-parents.ensures ∙ ap (map (λ a. a.parent)) c.deref.ensures.value) in
    let n = count c.args.plan.now c.deref-in-loop-index.result.now are in let few = c.requires.few in omega (arith, n, few)

pub loop-index-smaller : goal.loop-index-smaller
loop-index-smaller c = let test = c.loop-index-test.true in omega (arith, test)

pub returns-clause-as_many : goal.returns-clause-as_many
returns-clause-as_many c =
    let is = c.loop-index.invariant.as_many in let end = c.loop-index.auto.index-end in let test = c.loop-index-test.false in
    let n = c.len-index-end.ensures in let all = c.requires.as_many in omega (arith, is, end, test, n, all)

-- ---- memory was refused

pub returns-in_err-parents-clause-as_many : goal.returns-in_err-parents-clause-as_many
returns-in_err-parents-clause-as_many c = IfOk-from_err c.from_residual.result _ c.from_residual.ensures.0

pub returns-in_err-parents-clause-unstarted : goal.returns-in_err-parents-clause-unstarted
returns-in_err-parents-clause-unstarted c = IfOk-from_err c.from_residual.result _ c.from_residual.ensures.0

pub returns-in_err-guardian-clause-as_many : goal.returns-in_err-guardian-clause-as_many
returns-in_err-guardian-clause-as_many c = IfOk-from_err c.from_residual-in_err-guardian.result _ c.from_residual-in_err-guardian.ensures.0

pub returns-in_err-guardian-clause-unstarted : goal.returns-in_err-guardian-clause-unstarted
returns-in_err-guardian-clause-unstarted c = IfOk-from_err c.from_residual-in_err-guardian.result _ c.from_residual-in_err-guardian.ensures.0

pub returns-in_err-push-clause-as_many : goal.returns-in_err-push-clause-as_many
returns-in_err-push-clause-as_many c = IfOk-from_err c.from_residual-in_err-push.result _ c.from_residual-in_err-push.ensures.0

pub returns-in_err-push-clause-unstarted : goal.returns-in_err-push-clause-unstarted
returns-in_err-push-clause-unstarted c = IfOk-from_err c.from_residual-in_err-push.result _ c.from_residual-in_err-push.ensures.0

pub returns-in_err-cell_of-clause-as_many : goal.returns-in_err-cell_of-clause-as_many
returns-in_err-cell_of-clause-as_many c = IfOk-from_err c.from_residual-in_err-cell_of.result _ c.from_residual-in_err-cell_of.ensures.0

pub returns-in_err-cell_of-clause-unstarted : goal.returns-in_err-cell_of-clause-unstarted
returns-in_err-cell_of-clause-unstarted c = IfOk-from_err c.from_residual-in_err-cell_of.result _ c.from_residual-in_err-cell_of.ensures.0

pub returns-in_err-push-2-clause-as_many : goal.returns-in_err-push-2-clause-as_many
returns-in_err-push-2-clause-as_many c = IfOk-from_err c.from_residual-in_err-push-2.result _ c.from_residual-in_err-push-2.ensures.0

pub returns-in_err-push-2-clause-unstarted : goal.returns-in_err-push-2-clause-unstarted
returns-in_err-push-2-clause-unstarted c = IfOk-from_err c.from_residual-in_err-push-2.result _ c.from_residual-in_err-push-2.ensures.0
