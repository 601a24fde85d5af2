use Rattle.std.proofs.Common.{[], ap, ◌∙◌}
use Rattle.mb_cell.specs.CellView.{CellView}
use Rattle.mb_world.proofs.running.carry_out.Goals as goal

pub returns-then-is_carried-clause-carried : goal.returns-then-is_carried-clause-carried
returns-then-is_carried-clause-carried g c =
    (rw c.in_default.is at c.next_act.ensures.none) ∙ ap (λ (s : CellView). record s { acts = [] }) c.loop-act.invariant.0

pub returns-else-is_carried-clause-carried : goal.returns-else-is_carried-clause-carried
returns-else-is_carried-clause-carried g c =
    (rw c.in_default.is at c.next_act.ensures.none) ∙ ap (λ (s : CellView). record s { acts = [] }) c.loop-act.invariant.0
