use Rattle.std.proofs.Common.{rules, ap, ◌∙◌}
use Rattle.mb_gate.specs.Accessors.{first_home}
use Rattle.mb_gate.proofs.Allowed.{takes_in_allowed}
use Rattle.mb_gate.specs.Rule.{is_some_item}
use Rattle.mb_gate.proofs.gates.Gates.take_in.Goals as goal

pub join_seat-requires : goal.join_seat-requires
join_seat-requires g c = (
  search rules,
  search rules,
  search rules,
  search rules,
  takes_in_allowed (g.H.MailboxState.is_of (first_home c.args.self.now)) g.H.MailboxState.facts _ _ _ _ _ (ap (λ s. s.me.0.claim) c.replace-pass.ensures.value
      ∙ c.requires.nothing.1) (ap (λ s. s.me.0.list)
      c.replace-pass.ensures.value ∙ c.requires.nothing.2) (ap (λ s. is_some_item s.me.0.share) c.replace-pass.ensures.value ∙ c.requires.share),
)
