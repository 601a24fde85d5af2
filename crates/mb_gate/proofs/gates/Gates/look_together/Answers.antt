use Rattle.std.proofs.Common.{rules, refl, ap, ◌∙◌}
use Rattle.mb_gate.specs.Accessors.{first_home, pass_view}
use Rattle.mb_gate.specs.Together.{together}
use Rattle.mb_gate.specs.declared.pass.Pass.{Pass}
use Rattle.mb_gate.proofs.Together.{together_allowed, comes_back_allowed}
use Rattle.mb_gate.proofs.TwoClaims.{moves_allowed}
use Rattle.mb_gate.specs.Rule.{is_some_item}
use Rattle.mb_gate.proofs.gates.Gates.look_together.Goals as goal

pub split_seat-view-requires : goal.split_seat-view-requires
split_seat-view-requires g c = (
  search rules,
  search rules,
  moves_allowed (g.H.MailboxState.is_of (first_home c.args.self.now)) g.H.MailboxState.facts _ _ _ c.args.other.now.holds_nothing.2,
)

pub join_seat-requires : goal.join_seat-requires
join_seat-requires g c = let moved = c.split_seat-view.ensures.4 in let other = c.args.other.now in (
  search rules,
  search rules,
  ap (λ m. m.1) moved,
  search rules,
  together_allowed (g.H.MailboxState.is_of (first_home c.args.self.now)) g.H.MailboxState.facts _ _ _ _ _
      (ap (λ m. m.0.claim) moved ∙ other.holds_nothing.1) (ap (λ m. m.0.list) moved ∙ other.holds_nothing.2)
      (ap (λ m. is_some_item m.0.share) moved ∙ other.shares),
)

pub part-view-requires-clause-first : goal.part-view-requires-clause-first
part-view-requires-clause-first g c = refl

pub part-view-requires-clause-second : goal.part-view-requires-clause-second
part-view-requires-clause-second g c = refl

pub join_seat-requires-2 : goal.join_seat-requires-2
join_seat-requires-2 g c =
    let mine = c.part-view.ensures.known.1 in let other = c.args.other.now in let was = c.of-second.ensures in (
      search rules,
      search rules,
      ap (λ m. m.1) mine,
      search rules,
      comes_back_allowed (g.H.MailboxState.is_of (first_home c.args.self.now)) g.H.MailboxState.facts _ _ _ _ _
          (ap (λ m. m.0) c.split_seat-view.ensures.2)
          (ap (λ m. m.0.claim) mine ∙ (ap (λ (p : Pass g.row.H.Denot). (pass_view p).claim) was ∙ other.holds_nothing.1))
          (ap (λ m. m.0.list) mine ∙ (ap (λ (p : Pass g.row.H.Denot). (pass_view p).list) was ∙ other.holds_nothing.2)),
    )

pub returns-clause-looked : goal.returns-clause-looked
returns-clause-looked g c = record {
  all = _;
  left = _;
  same_gates = c.join_seat.ensures.0 ∙ c.requires.same_gates.0;
  known = ap (λ m. m.0) c.join_seat.ensures.2 ∙ ap (together (pass_view c.args.pass.now)) (ap (λ m. m.0) c.split_seat-view.ensures.4);
  called = c.look-answer.ensures;
}
