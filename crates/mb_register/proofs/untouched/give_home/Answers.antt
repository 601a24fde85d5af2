use Rattle.std.proofs.Common.{sym, ap}
use Rattle.mb_status.specs.Mailbox.{word_of}
use Rattle.mb_gate.specs.Claims.{held_in}
use Rattle.mb_gate.specs.Accessors.{pass_view, claim_view, held_actor, status_of, gave_last, taken_with, closed_with, drained_by, recorded_by}
use Rattle.mb_gate.specs.View.{View, taking_in}
use Rattle.mb_register.proofs.AtHome.{extends-same, shut-same, drained-same, told-nothing, rest-open}
use Rattle.mb_register.proofs.Joining.{owes-back}
use Rattle.mb_register.proofs.Views.{looks-back}
use Rattle.mb_register.proofs.ClaimCounts.{claims-back}
use Rattle.mb_register.proofs.untouched.give_home.Goals as goal

pub release-requires-clause-may_go_home : goal.release-requires-clause-may_go_home
release-requires-clause-may_go_home g c = record {
  home_of_actor = c.requires.untouched.same_gates.of_actor;
  extends =
      let claim = c.args.claim in
      extends-same (g.H.MailboxState.facts claim.home).journal (taken_with claim) (ap (λ (v : View). (held_in v).journal) c.requires.untouched.known);
  fold = c.requires.untouched.word;
  count = sym (ap (λ (v : View). (held_in v).given) c.requires.untouched.known);
  known_closed =
      let claim = c.args.claim in
      shut-same (g.H.MailboxState.facts claim.home).closed_to (closed_with claim) (taking_in (claim_view claim) (pass_view c.args.pass.now))
      (ap (λ (v : View). (held_in v).closed_to) c.requires.untouched.known);
  drained =
      let claim = c.args.claim in
      drained-same (g.H.MailboxState.facts claim.home).drained (drained_by claim) (ap (λ (v : View). (held_in v).drained) c.requires.untouched.known);
  rest =
      let claim = c.args.claim in
      rest-open (status_of claim).closed (gave_last claim) (g.H.MailboxState.facts claim.home).no_backlog c.requires.untouched.open_yet
      c.requires.untouched.rest;
}

pub release-requires-clause-told : goal.release-requires-clause-told
release-requires-clause-told g c =
    let claim = c.args.claim in
    told-nothing (g.H.MailboxState.who claim.home) (held_actor claim) (status_of claim).closed (g.H.MailboxState.facts claim.home).journal (taken_with claim)
    (recorded_by claim) (ap (λ (v : View). (held_in v).journal) c.requires.untouched.known) c.requires.untouched.recorded

pub returns-clause-looks : goal.returns-clause-looks
returns-clause-looks g c =
    let claim = c.args.claim in
    let home = claim.home in
    looks-back (held_actor claim) (g.H.MailboxState.facts home).journal (g.H.MailboxState.facts home).closed_to (word_of (status_of claim))
    (gave_last claim) (g.H.MailboxState.facts home).given (g.H.MailboxState.facts home).drained (pass_view c.args.pass.now) (claim_view claim)
    (pass_view c.release.new.pass) c.requires.untouched.known c.release.ensures.known

pub returns-clause-claims : goal.returns-clause-claims
returns-clause-claims g c =
    let claim = c.args.claim in
    let home = claim.home in
    claims-back (held_actor claim) (g.H.MailboxState.facts home).journal (g.H.MailboxState.facts home).journal (g.H.MailboxState.facts home).closed_to (word_of
    (status_of claim))
    (gave_last claim) (g.H.MailboxState.facts home).given (g.H.MailboxState.facts home).drained (pass_view c.args.pass.now) (claim_view claim)
    (pass_view c.release.new.pass) c.requires.untouched.known
    c.release.ensures.known

pub returns-clause-owes : goal.returns-clause-owes
returns-clause-owes g c =
    let claim = c.args.claim in
    owes-back (held_actor claim) (g.H.MailboxState.facts claim.home).journal (taking_in (claim_view claim) (pass_view c.args.pass.now))
    (pass_view c.release.new.pass) c.release.ensures.known
