use Rattle.std.proofs.Common.{◌≡◌, ◌++◌, ◌∷◌, [], append-nil, append_assoc, sym, ap, ◌∙◌}
use Rattle.std.specs.Vec.Iter.{into_iter_items}
use Rattle.std.proofs.lemmas.List.{nil_from_length}
use Rattle.std.proofs.lemmas.Result.{IfOk-from_err}
use Rattle.mb_build.proofs.homes.left.Goals as goal

pub loop-row-init : goal.loop-row-init
loop-row-init c =
    ap (λ l. l ++ into_iter_items c.into_iter-row-iterator.result) c.in_ok-left.ensures.items
    ∙ ap into_iter_items c.into_iter-row-iterator.ensures.into_iter_gives

pub loop-row-preserved : goal.loop-row-preserved
loop-row-preserved c =
    let at = c.loop-row in let rest = into_iter_items c.next.new.self in
    ap (λ l. l ++ rest) c.in_ok-push.ensures.items ∙ append_assoc at.left.items (c.in-Some.row ∷ []) rest
    ∙ ap (λ l. at.left.items ++ l) (sym c.in-Some.ensures.steps.0) ∙ at.invariant

pub returns : goal.returns
returns c =
    let at = c.loop-row in
    let none : into_iter_items at.row-iterator ≡ [] =
    nil_from_length (into_iter_items at.row-iterator) (sym at.row-iterator.rest.ok.0 ∙ c.in-None.ensures.steps.0) in
    sym (append-nil at.left.items) ∙ ap (λ l. at.left.items ++ l) (sym none) ∙ at.invariant

pub returns-in_err-left : goal.returns-in_err-left
returns-in_err-left c = IfOk-from_err c.from_residual.result _ c.from_residual.ensures.0

pub returns-in_err-push : goal.returns-in_err-push
returns-in_err-push c = IfOk-from_err c.from_residual-in_err-push.result _ c.from_residual-in_err-push.ensures.0
