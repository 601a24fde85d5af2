use Rattle.std.proofs.Common.{ap, sym, ◌∙◌}
use Rattle.mb_supervision.specs.ActQueue.{act_of}
use Rattle.mb_cell.specs.CellView.{CellView}
use Rattle.mb_cell.proofs.UnsentLaws.{next-acts, next-is-tell}
use Rattle.mb_cell.proofs.cell.Cell.next_act.Goals as goal

pub tell_of-requires : goal.tell_of-requires
tell_of-requires g c =
    next-is-tell c.self.inside.unsent c.self.inside.journal.entries c.self.invariant.3 c.if-self-eq0.false c.newest_effect-effect.result
    c.newest_effect-effect.ensures

pub returns-clause-taken : goal.returns-clause-taken
returns-clause-taken g c =
    ap (λ (s : CellView). s.acts) (sym c.self.view_is)
    ∙ next-acts c.self.inside.unsent c.self.inside.journal.entries c.self.invariant.3 c.if-self-eq0.false c.newest_effect-effect.result
    c.newest_effect-effect.ensures (act_of c.tell_of.result) c.self.inside.cell_state.acts c.tell_of.ensures
