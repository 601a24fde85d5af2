use Rattle.std.proofs.Common.{All, ap, arith, subst, sym, vec_len, ◌<◌, ◌∙◌}
use Rattle.std.specs.Global.{Vec}
use Rattle.std.proofs.lemmas.List.Elements.{All-nil, All-push}
use Rattle.std.proofs.lemmas.Result.{IfOk-from_err}
use Rattle.mb_msg.specs.Limits.{most_actors}
use Rattle.mb_msg.specs.declared.id.ActorId.{ActorId}
use Rattle.mb_cell_tests.proofs.headers.children_of.Goals.{then-first-id+then-id-last+in_ok-push, else-first-id}
use Rattle.mb_cell_tests.proofs.headers.children_of.Goals as goal

abbrev IsNumbered : ActorId → Type 0
IsNumbered x = x.0 < most_actors

pub loop-id-init : goal.loop-id-init
loop-id-init c =
    let none = c.new-children.ensures.len in record {
      within_limit = omega (arith, none);
      numbered = subst (All IsNumbered) (sym c.new-children.ensures.items) (All-nil IsNumbered);
    }

pub loop-id-smaller : goal.loop-id-smaller
loop-id-smaller c = let test = c.loop-id-test.true in omega (arith, test)

pub loop-id-preserved : goal.loop-id-preserved
loop-id-preserved c =
    let at = c.loop-id in let test = c.loop-id-test.true in let few = at.invariant.within_limit in
    elim c.if-first-id.branch [
      | then-first-id+then-id-last+in_ok-push w ↦
          let same = ap vec_len w.children-is in let longer = w.in_ok-push.ensures.len in
          let items = ap (λ (v : Vec ActorId). v.items) w.children-is ∙ w.in_ok-push.ensures.items in record {
            within_limit = omega (arith, same, longer, few);
            numbered = subst (All IsNumbered) (sym items) (All-push IsNumbered at.children.items _ at.invariant.numbered test);
          }
      | else-first-id w ↦
          let same = ap vec_len w.children-is in record {
            within_limit = omega (arith, same, few);
            numbered = subst (All IsNumbered) (sym (ap (λ (v : Vec ActorId). v.items) w.children-is)) at.invariant.numbered;
          }
    ]

pub returns-in_err-push-clause-within_limit : goal.returns-in_err-push-clause-within_limit
returns-in_err-push-clause-within_limit c = IfOk-from_err c.from_residual.result _ c.from_residual.ensures.0

pub returns-in_err-push-clause-numbered : goal.returns-in_err-push-clause-numbered
returns-in_err-push-clause-numbered c = IfOk-from_err c.from_residual.result _ c.from_residual.ensures.0

pub returns-clause-within_limit : goal.returns-clause-within_limit
returns-clause-within_limit c =
    let is = c.loop-id.invariant.within_limit in let end = c.loop-id.auto.id-end in let items = c.loop-id.children.ok.0 in omega (arith, is, end, items)

pub returns-clause-numbered : goal.returns-clause-numbered
returns-clause-numbered c = c.loop-id.invariant.numbered
