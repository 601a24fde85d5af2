use Rattle.mb_supervision.proofs.HandledLemmas.{handled-telling}
use Rattle.mb_supervision.proofs.cell_state.CellState.is_unchanged_by.Goals as goal

pub returns : goal.returns
returns c unchanged who effects state tells =
    handled-telling who c.args.body c.args.answer effects state tells (c.changes_by_effects_alone.ensures.no_failure unchanged)
    (c.changes_by_effects_alone.ensures.same_due unchanged state.due)
