use Rattle.std.proofs.Common.{rules, ap, sym, ◌∙◌}
use Rattle.mb_gate.specs.Accessors.{first_home}
use Rattle.mb_gate.proofs.Together.{again_chosen}
use Rattle.mb_gate.proofs.gates.Gates.part.Goals as goal

pub split_seat-requires : goal.split_seat-requires
split_seat-requires g c = let first = c.args.first.now.value in let second = c.args.second.now.value in (
  search rules,
  search rules,
  again_chosen (g.H.MailboxState.is_of (first_home c.args.self.now)) g.H.MailboxState.facts _ _ _ _ _ _ _ c.requires.first c.requires.second
      c.requires.known second.holds_nothing.1 second.holds_nothing.2 first.shares second.shares,
)
