use Rattle.std.proofs.Common.{rules, ◌∷◌, ap, sym, ◌∙◌}
use Rattle.atomic_table.specs.Table.{rest}
use Rattle.mb_gate.specs.declared.slot.Slot.TheVariants.{Home}
use Rattle.mb_gate.specs.Accessors.{first_home}
use Rattle.mb_gate.proofs.Allowed.{claims_allowed}
use Rattle.mb_gate.proofs.gates.Gates.claim.Goals as goal

pub split_seat-rest-requires : goal.split_seat-rest-requires
split_seat-rest-requires g c = (
  search rules,
  search rules,
  claims_allowed (g.H.MailboxState.is_of (first_home c.args.self.now)) g.H.MailboxState.facts _ _ _ c.requires.won.no_list c.requires.won.share,
)

pub exchange-requires : goal.exchange-requires
exchange-requires g c =
    let me = ap (λ s. s.me) c.replace-mine.ensures.value ∙ c.split_seat-rest.ensures.2 in
    let carried = ap (λ m. m.1) me ∙ c.requires.won.carried in
    (search rules, (Home c.requires.won.home, carried ∙ (λ i. (sym c.slot_index-slot.ensures i, Home c.requires.won.home) ∷ rest (sym carried i))))
