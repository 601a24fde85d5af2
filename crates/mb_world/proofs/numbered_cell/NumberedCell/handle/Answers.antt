use Rattle.std.proofs.Common.{ap, ◌∙◌, arith}
use Rattle.mb_cell.specs.CellView.{CellView}
use Rattle.mb_cell.proofs.NumberLemmas.{numbered_envelope}
use Rattle.mb_world.proofs.numbered_cell.NumberedCell.handle.Goals as goal

pub invariant_of-self : goal.invariant_of-self
invariant_of-self g c =
    let taken = c.apply_envelope.ensures.taken in let limit = c.self.invariant.1 in
    let same = ap (λ (s : CellView). s.who.limit) taken.adds in (
      c.self.invariant.0 ∙ numbered_envelope _ _ _ _ taken,
      omega (arith, same, limit),
    )
