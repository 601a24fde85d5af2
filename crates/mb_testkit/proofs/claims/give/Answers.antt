use Rattle.mb_gate.specs.Accessors.{pass_view, claim_view}
use Rattle.mb_gate.specs.Untouched.{origin_of}
use Rattle.mb_gate.specs.View.{taking_in}
use Rattle.mb_testkit.proofs.Given.{count, drained, extends, rest, shut, told}
use Rattle.mb_testkit.proofs.claims.give.Goals as goal

pub release-requires-clause-may_go_home : goal.release-requires-clause-may_go_home
release-requires-clause-may_go_home g c = record {
  home_of_actor = c.requires.untouched.same_gates.of_actor;
  extends =
      extends g.H.MailboxState.is_of g.H.MailboxState.facts
      (origin_of c.args.gates.now) c.args.claim c.requires.untouched;
  fold = c.requires.untouched.word;
  count =
      count g.H.MailboxState.is_of g.H.MailboxState.facts
      (origin_of c.args.gates.now) c.args.claim c.requires.untouched;
  known_closed =
      shut g.H.MailboxState.is_of g.H.MailboxState.facts
      (origin_of c.args.gates.now) c.args.claim c.requires.untouched
      (taking_in (claim_view c.args.claim) (pass_view c.args.pass.now));
  drained =
      drained g.H.MailboxState.is_of g.H.MailboxState.facts
      (origin_of c.args.gates.now) c.args.claim c.requires.untouched;
  rest =
      rest g.H.MailboxState.is_of g.H.MailboxState.facts
      (origin_of c.args.gates.now) c.args.claim c.requires.untouched;
}

pub release-requires-clause-told : goal.release-requires-clause-told
release-requires-clause-told g c =
    told g.H.MailboxState.is_of g.H.MailboxState.facts
    (origin_of c.args.gates.now) c.args.claim c.requires.untouched _
