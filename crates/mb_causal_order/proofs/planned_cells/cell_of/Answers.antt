use Rattle.std.proofs.Common.{◌<◌, ap, subst, sym, length, arith}
use Rattle.std.specs.Prelude.{All}
use Rattle.mb_msg.specs.declared.id.ActorId.{ActorId}
use Rattle.mb_build.proofs.CellLemmas.{children-below, children-few}
use Rattle.mb_causal_order.proofs.planned_cells.cell_of.Goals as goal

pub new-requires-2-clause-within_limit : goal.new-requires-2-clause-within_limit
new-requires-2-clause-within_limit c =
    let few = c.requires.few in let some = children-few 1 c.args.number c.args.parents.now in let is = ap length c.in_ok-prepared.ensures in
    omega (arith, few, some, is)

pub new-requires-2-clause-numbered : goal.new-requires-2-clause-numbered
new-requires-2-clause-numbered c =
    let few = c.requires.few in
    subst (All (λ (x : ActorId). x.0 < 64)) (sym c.in_ok-prepared.ensures) (children-below 64 1 c.args.number c.args.parents.now (omega (arith, few)))
