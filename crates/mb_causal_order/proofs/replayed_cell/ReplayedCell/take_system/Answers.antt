use Rattle.std.proofs.Common.{ap, ◌∙◌}
use Rattle.mb_journal.specs.Identity.{Identity}
use Rattle.mb_cell.specs.CellView.{CellView}
use Rattle.mb_cell.proofs.NumberLemmas.{numbered_next}
use Rattle.mb_causal_order.proofs.Told.{all_told-more, told-more}
use Rattle.mb_causal_order.proofs.replayed_cell.ReplayedCell.take_system.Goals as goal

pub invariant_of-self : goal.invariant_of-self
invariant_of-self c =
    let who = ap (λ (s : CellView). s.who) c.apply_system.ensures.taken.adds in (
      numbered_next _ _ _ _ c.apply_system.ensures.taken (c.if-number-self.true ∙ c.self.invariant.0),
      ap (λ (w : Identity). w.this.0) who ∙ c.self.invariant.1,
      told-more c.self.inside.cell _ _ _ c.apply_system.ensures.taken.adds c.self.invariant.2,
      all_told-more c.self.inside.cell _ _ _ c.apply_system.ensures.taken.adds (ap (λ (s : CellView). s.acts) c.self.view_is ∙ c.requires.carried_out) c.self.invariant.3,
    )
