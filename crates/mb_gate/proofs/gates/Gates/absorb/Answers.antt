use Rattle.std.proofs.Common.{rules, ap, ◌∙◌}
use Rattle.mb_gate.specs.Accessors.{first_home}
use Rattle.mb_gate.proofs.Allowed.{joins_allowed}
use Rattle.mb_gate.proofs.SplitsAndJoins.{some_left}
use Rattle.mb_gate.specs.Rule.{is_some_item}
use Rattle.mb_gate.proofs.gates.Gates.absorb.Goals as goal

pub join_seat-requires : goal.join_seat-requires
join_seat-requires g c = (
  search rules,
  search rules,
  search rules,
  search rules,
  joins_allowed (g.H.MailboxState.is_of (first_home c.args.self.now)) g.H.MailboxState.facts _ _ _ _ _ c.args.other.holds_nothing.1
      c.args.other.holds_nothing.2 c.args.other.shares,
)

pub invariant_of-pass : goal.invariant_of-pass
invariant_of-pass g c = let me = c.join_seat.ensures.2 in let was = c.args.pass.now in record {
  holds_nothing = (
    ap (λ m. m.1) me ∙ was.holds_nothing.0,
    ap (λ m. m.0.claim) me ∙ was.holds_nothing.1,
    ap (λ m. m.0.list) me ∙ was.holds_nothing.2,
  );
  shares = ap (λ m. is_some_item m.0.share) me ∙ some_left _ _ c.args.other.shares;
}
