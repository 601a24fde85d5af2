use Rattle.std.proofs.Common.{ap, sym, ◌∙◌}
use Rattle.mb_journal.specs.Identity.{is_guardian}
use Rattle.mb_supervision.specs.CellStateRecord.{CellState}
use Rattle.mb_cell.specs.CellView.{CellView}
use Rattle.mb_cell.proofs.GuardianLemmas.{broken-actor}
use Rattle.mb_cell.proofs.cell.Cell.is_broken.Goals as goal

pub returns-in-Broken-clause-an_actor : goal.returns-in-Broken-clause-an_actor
returns-in-Broken-clause-an_actor g c = λ yes.
    ap (λ (s : CellView). is_guardian s.who) (sym c.self.view_is)
    ∙ broken-actor _ _ _ c.self.invariant.0.lawful.entries
    (sym (ap (λ (b : CellState). b.phase) c.self.invariant.0.booked) ∙ (sym c.phase.ensures ∙ c.in-Broken.is))
