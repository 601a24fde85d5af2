use Rattle.std.proofs.Common.{◌+◌, ap, sym, subst, ◌∙◌}
use Rattle.mb_gate.specs.Accessors.{first_home, pass_view}
use Rattle.mb_gate.specs.View.{reading}
use Rattle.mb_gate.specs.Rule.{is_some_item}
use Rattle.mb_gate.specs.TableSteps.{StaysClosed}
use Rattle.mb_gate.proofs.Wins.{scheduled_word, taken, got}
use Rattle.mb_gate.proofs.gates.Gates.exchange_status.Goals as goal

pub claim-requires-clause-won : goal.claim-requires-clause-won
claim-requires-clause-won g c =
    let found = c.if-found-old.true ∙ c.word-old.ensures.word in
    taken (g.H.MailboxState.is_of (first_home c.args.self.now)) g.H.MailboxState.facts _ _ _ _ (c.exchange_word-found.ensures.won found) c.args.status
    (scheduled_word c.args.seen c.args.status c.requires.scheduled.free c.requires.scheduled.scheduled ∙ ap (λ n. n + 2) (sym found))
    c.args.pass.now.holds_nothing.0 c.args.pass.now.holds_nothing.2 c.args.pass.now.shares

pub invariant_of-pass : goal.invariant_of-pass
invariant_of-pass g c =
    let me = c.claim.ensures.rest in
    let won = c.exchange_word-found.ensures.won (c.if-found-old.true ∙ c.word-old.ensures.word) in
    record {
      holds_nothing = (
        ap (λ m. m.1) me,
        ap (λ m. m.0.claim) me,
        ap (λ m. m.0.list) me ∙ (ap (λ m. m.0.list) won.now ∙
            c.args.pass.now.holds_nothing.2),
      );
      shares = ap (λ m. is_some_item m.0.share) me ∙ (ap (λ m. is_some_item m.0.share) won.now ∙ c.args.pass.now.shares);
    }

pub returns-then-found-old-clause-answer : goal.returns-then-found-old-clause-answer
returns-then-found-old-clause-answer g c =
    let found = c.if-found-old.true ∙ c.word-old.ensures.word in
    got (g.H.MailboxState.is_of (first_home c.args.self.now)) g.H.MailboxState.facts _ _ _ _ (c.exchange_word-found.ensures.won found)
    c.args.seen c.claim.result _ c.requires.scheduled.free found c.args.pass.now.holds_nothing.1 (c.claim.ensures.split_off.claim.2 ∙ c.requires.scheduled.scheduled)
    c.claim.ensures.split_off.claim.1 c.claim.ensures.split_off.recorded c.claim.ensures.split_off.claim.0 c.claim.ensures.split_off.home (ap (λ m. m.0) c.claim.ensures.rest)

pub invariant_of-pass-else-found-old : goal.invariant_of-pass-else-found-old
invariant_of-pass-else-found-old g c =
    let read = (c.exchange_word-found.ensures.lost (λ e. c.if-found-old.false (e ∙ sym c.word-old.ensures.word))).0 in
    let was = c.args.pass.now.holds_nothing in
    record {
      holds_nothing = (
        ap (λ m. m.1) read ∙ was.0,
        ap (λ m. m.0.claim) read ∙ was.1,
        ap (λ m. m.0.list) read ∙ was.2,
      );
      shares = ap (λ m. is_some_item m.0.share) read ∙ c.args.pass.now.shares;
    }

pub unreachable-requires : goal.unreachable-requires
unreachable-requires g c =
    let no = c.in-None.ensures.valid.1 (c.exchange_word-found.ensures.lost (λ e. c.if-found-old.false (e ∙ sym c.word-old.ensures.word))).1 in cc

pub returns-clause-answer : goal.returns-clause-answer
returns-clause-answer g c =
    let lost = c.exchange_word-found.ensures.lost (λ e. c.if-found-old.false (e ∙ sym c.word-old.ensures.word)) in
    let same = c.in-Some.ensures.same_word in (
      c.requires.scheduled.free,
      (λ e. c.if-found-old.false (sym same ∙ (e ∙ sym c.word-old.ensures.word))),
      ap (λ m. m.0) lost.0 ∙ ap (λ w. reading c.args.id.0 w (pass_view c.args.pass.now)) (sym same),
      subst (λ w. StaysClosed c.args.id.0 w (pass_view c.args.pass.now)) (sym same) lost.2,
    )
