use Rattle.std.proofs.Common.{◌≡◌, false, ap, sym, ◌∙◌}
use Rattle.mb_journal.specs.Aside.{next_number}
use Rattle.mb_journal.specs.Identity.{Identity}
use Rattle.mb_cell.specs.CellView.{CellView, with_entry}
use Rattle.mb_cell.proofs.NumberLemmas.{numbered_envelope}
use Rattle.mb_causal_order.proofs.Told.{all_told-more, told-more}
use Rattle.mb_causal_order.proofs.replayed_cell.ReplayedCell.take_envelope.Goals as goal

-- the cell has an entry more, and no room is counted on
added : (c : goal.After-forget_room) → c.forget_room.new.self ≡ with_entry c.self.inside.cell c.apply_envelope.ensures.taken.entry
added c = c.forget_room.ensures ∙ ap (λ (s : CellView). record s { is_ready = false }) c.apply_envelope.ensures.taken.adds

pub invariant_of-self : goal.invariant_of-self
invariant_of-self c =
    let who = ap (λ (s : CellView). s.who) (added c) in (
      c.self.invariant.0 ∙ numbered_envelope _ _ _ _ c.apply_envelope.ensures.taken ∙ ap (λ (s : CellView). next_number s.journal) (sym c.forget_room.ensures),
      ap (λ (w : Identity). w.this.0) who ∙ c.self.invariant.1,
      told-more c.self.inside.cell _ _ _ (added c) c.self.invariant.2,
      all_told-more c.self.inside.cell _ _ _ (added c) (ap (λ (s : CellView). s.acts) c.self.view_is ∙ c.requires.carried_out) c.self.invariant.3,
    )

pub returns : goal.returns
returns c given = record { entry = c.apply_envelope.ensures.taken.entry; adds = added c ∙ ap (λ (s : CellView). with_entry s c.apply_envelope.ensures.taken.entry) c.self.view_is }
