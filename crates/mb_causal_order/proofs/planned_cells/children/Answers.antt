use Rattle.std.proofs.Common.{◌≡◌, ◌+◌, ◌++◌, [], drop, append-nil, refl, sym, ap, ◌∙◌, arith}
use Rattle.std.proofs.Math.ListN.{drop_of_length-le}
use Rattle.std.specs.Global.{Vec}
use Rattle.mb_msg.specs.declared.id.ActorId.{ActorId}
use Rattle.mb_build.specs.Identities.{children_from}
use Rattle.mb_build.proofs.CellLemmas.{child-more, child-other}
use Rattle.mb_causal_order.proofs.planned_cells.children.Goals.{then-parent-this+in_ok-push, else-parent-this}
use Rattle.mb_causal_order.proofs.planned_cells.children.Goals as goal

pub loop-parent-init : goal.loop-parent-init
loop-parent-init c = (refl, ap (λ l. l ++ children_from 1 c.args.this.0 c.args.parents.now) c.new-children.ensures.items)

pub loop-parent-preserved : goal.loop-parent-preserved
loop-parent-preserved c =
    let at = c.loop-parent in let parents = c.args.parents.now in let new = c.if-parent-this.children in let old = at.children.items in
    let whole = children_from 1 c.args.this.0 parents in (
      ap (λ n. n + 1) at.invariant.0,
      elim c.if-parent-this.branch [
        | then-parent-this+in_ok-push w ↦
            child-more at.number c.args.this.0 at.parent-index old new.items parents whole c.loop-parent-test.true at.invariant.1
            w.if-parent-this.true (ap (λ (v : Vec ActorId). v.items) w.children-is ∙ w.in_ok-push.ensures.items)
        | else-parent-this w ↦
            child-other at.number c.args.this.0 at.parent-index old new.items parents whole c.loop-parent-test.true at.invariant.1
            w.if-parent-this.false (ap (λ (v : Vec ActorId). v.items) w.children-is)
      ],
    )

pub overflow_add-number : goal.overflow_add-number
overflow_add-number c =
    let at = c.loop-parent in let number = at.invariant.0 in let test = c.loop-parent-test.true in let few = c.requires in
    omega (arith, number, test, few)

pub returns : goal.returns
returns c =
    let at = c.loop-parent in let parents = c.args.parents.now in let test = c.loop-parent-test.false in
    let none : drop at.parent-index parents ≡ [] = drop_of_length-le parents test in
    sym (append-nil at.children.items) ∙ ap (λ l. at.children.items ++ children_from at.number c.args.this.0 l) (sym none) ∙ at.invariant.1
