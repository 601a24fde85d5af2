use Rattle.std.proofs.Common.{rules, ap, ◌∙◌}
use Rattle.mb_gate.specs.Accessors.{first_home}
use Rattle.mb_gate.proofs.Allowed.{copies_allowed, some_halved, some_half}
use Rattle.mb_gate.specs.Rule.{is_some_item}
use Rattle.mb_gate.proofs.gates.Gates.split_pass.Goals as goal

pub split_seat-seat-requires : goal.split_seat-seat-requires
split_seat-seat-requires g c = (
  search rules,
  search rules,
  copies_allowed (g.H.MailboxState.is_of (first_home c.args.self.now)) g.H.MailboxState.facts _ _ _ c.args.pass.now.holds_nothing.1
      c.args.pass.now.holds_nothing.2
      c.args.pass.now.shares,
)

pub invariant_of-pass : goal.invariant_of-pass
invariant_of-pass g c = let me = c.split_seat-seat.ensures.2 in let was = c.args.pass.now in record {
  holds_nothing = (
    ap (λ m. m.1) me ∙ was.holds_nothing.0,
    ap (λ m. m.0.claim) me ∙ was.holds_nothing.1,
    ap (λ m. m.0.list) me ∙ was.holds_nothing.2,
  );
  shares = ap (λ m. is_some_item m.0.share) me ∙ some_halved _ was.shares;
}

pub invariant_of-result : goal.invariant_of-result
invariant_of-result g c = let me = c.split_seat-seat.ensures.4 in let was = c.args.pass.now in record {
  holds_nothing = (
    ap (λ m. m.1) me,
    ap (λ m. m.0.claim) me ∙ was.holds_nothing.1,
    ap (λ m. m.0.list) me ∙ was.holds_nothing.2,
  );
  shares = ap (λ m. is_some_item m.0.share) me ∙ some_half _ was.shares;
}
