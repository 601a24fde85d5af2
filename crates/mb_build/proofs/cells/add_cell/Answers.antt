use Rattle.std.proofs.Common.{rules, ◌≡◌, ◌<◌, ◌+◌, ◌++◌, ◌∷◌, [], length, sym, ap, ◌∙◌, subst, arith}
use Rattle.std.specs.Prelude.{All}
use Rattle.std.proofs.lemmas.Result.{IfOk-from_err}
use Rattle.mb_msg.specs.declared.id.ActorId.{ActorId}
use Rattle.mb_actor.specs.Behaviour.{AllowsSame}
use Rattle.mb_build.proofs.CellLemmas.{cell-is, children-below, children-few}
use Rattle.mb_build.proofs.cells.add_cell.Goals as goal

pub new-requires-clause-within_limit : goal.new-requires-clause-within_limit
new-requires-clause-within_limit g c =
    let few = c.requires.within_limit.1 in let some = children-few 1 c.len.result c.args.parents.now in let is = ap length c.in_ok-prepared.ensures in
    omega (arith, few, some, is)

pub new-requires-clause-numbered : goal.new-requires-clause-numbered
new-requires-clause-numbered g c =
    let few = c.requires.within_limit.1 in
    subst (All (λ (x : ActorId). x.0 < 64)) (sym c.in_ok-prepared.ensures)
    (children-below 64 1 c.len.result c.args.parents.now (omega (arith, few)))

pub new-requires-clause-new_actor : goal.new-requires-clause-new_actor
new-requires-clause-new_actor g c =
    let place : c.len.result ≡ length c.args.cells.now.items = search rules in record {
      unused = c.requires.behaved.unused;
      behaves = c.requires.behaved.behaves ∙ ap g.K.Behaviours.after (sym place);
      allows = subst (λ n. AllowsSame (g.A.Actor.gives c.args.actor) (g.K.Behaviours.gives n)) (sym place) c.requires.behaved.allows;
    }

pub returns-clause-cell : goal.returns-clause-cell
returns-clause-cell g c =
    let parents = c.args.parents.now in let cells = c.args.cells.now.items in
    let place : c.len.result ≡ length cells = search rules in
    c.push_reserved.ensures.items
    ∙ ap (λ x. cells ++ x ∷ []) (cell-is (length parents + 1) c.args.journal c.args.journal_limit parents c.len.result (length cells) c.args.plan.parent
    c.args.plan.strategy c.in_ok-prepared.prepared.items c.in_ok-new.field-0 c.in_ok-new.ensures.fresh c.in_ok-prepared.ensures place)

pub returns-in_err-prepared-clause-room : goal.returns-in_err-prepared-clause-room
returns-in_err-prepared-clause-room g c = IfOk-from_err c.from_residual.result _ c.from_residual.ensures.0

pub returns-in_err-prepared-clause-cell : goal.returns-in_err-prepared-clause-cell
returns-in_err-prepared-clause-cell g c = IfOk-from_err c.from_residual.result _ c.from_residual.ensures.0
