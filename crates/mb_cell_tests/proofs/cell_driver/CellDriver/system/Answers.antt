use Rattle.std.proofs.Common.{ap, sym, ◌∙◌}
use Rattle.mb_journal.specs.Aside.{next_number}
use Rattle.mb_journal.specs.Identity.{Identity, is_guardian}
use Rattle.mb_cell.specs.CellView.{CellView}
use Rattle.mb_cell.proofs.NumberLemmas.{numbered_next}
use Rattle.mb_cell_tests.proofs.cell_driver.CellDriver.system.Goals as goal

pub invariant_of-self : goal.invariant_of-self
invariant_of-self g c =
    let who = ap (λ (s : CellView). s.who) c.apply_system.ensures.taken.adds ∙ ap (λ (s : CellView). s.who) c.make_ready.ensures in (
      numbered_next _ _ _ _ c.apply_system.ensures.taken
          (c.self.invariant.0 ∙ ap (λ (s : CellView). next_number s.journal) (sym c.make_ready.ensures)),
      ap (λ (w : Identity). w.this.0) who ∙ c.self.invariant.1,
      ap is_guardian who ∙ c.self.invariant.2,
    )
