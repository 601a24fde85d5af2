use Rattle.std.proofs.Common.{◌+◌, All, ap, arith, length, subst, sym, ◌∙◌}
use Rattle.std.proofs.lemmas.List.{length_push}
use Rattle.std.proofs.lemmas.List.Elements.{All-nil, All-push}
use Rattle.std.proofs.lemmas.Result.{IfOk-from_err}
use Rattle.std.specs.BTreeMap.{IsEmpty}
use Rattle.mb_script.proofs.index.empty_maps.Goals as goal

pub loop-init : goal.loop-init
loop-init c =
    let none = c.new-index.ensures.items in record { count = ap length none; empty = subst (All IsEmpty) (sym none) (All-nil IsEmpty) }

pub loop-preserved : goal.loop-preserved
loop-preserved c =
    let at = c.loop in let items = c.in_ok-push.ensures.items in record {
      count = ap length items ∙ length_push at.index.items c.new.result ∙ ap (λ n. n + 1) at.invariant.count;
      empty = subst (All IsEmpty) (sym items) (All-push IsEmpty at.index.items c.new.result at.invariant.empty c.new.ensures.empty);
    }

pub loop-smaller : goal.loop-smaller
loop-smaller c = let test = c.loop-test.true in omega (arith, test)

pub returns-in_err-push-clause-count : goal.returns-in_err-push-clause-count
returns-in_err-push-clause-count c = IfOk-from_err c.from_residual.result _ c.from_residual.ensures.0

pub returns-in_err-push-clause-empty : goal.returns-in_err-push-clause-empty
returns-in_err-push-clause-empty c = IfOk-from_err c.from_residual.result _ c.from_residual.ensures.0

pub returns-clause-count : goal.returns-clause-count
returns-clause-count c =
    let is = c.loop.invariant.count in let end = c.loop.auto.counter-end in let test = c.loop-test.false in omega (arith, is, end, test)

pub returns-clause-empty : goal.returns-clause-empty
returns-clause-empty c = c.loop.invariant.empty
