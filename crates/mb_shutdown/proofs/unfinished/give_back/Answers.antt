use Rattle.std.proofs.Common.{◌≡◌, ◌∙◌, ap, rules, subst, sym}
use Rattle.mb_gate.specs.Accessors.{claim_view, closed_with, drained_by, gave_last, held_actor, pass_id, pass_view, recorded_by, status_of, taken_with}
use Rattle.mb_gate.specs.Claims.{held_in}
use Rattle.mb_gate.specs.Rule.{IsPart}
use Rattle.mb_gate.specs.View.{View, idling, taking_in}
use Rattle.mb_home.specs.AtHome.{facts_of}
use Rattle.mb_register.proofs.AtHome.{drained-same, extends-same, rest-open, shut-same, told-nothing}
use Rattle.mb_shutdown.specs.Unfinished.{GivesBack, found_none, gave_one}
use Rattle.mb_shutdown.proofs.GivingBack.{released-part}
use Rattle.mb_shutdown.proofs.Parts.{part-same, part-trans}
use Rattle.mb_shutdown.proofs.unfinished.give_back.Goals as goal

pub loop-init : goal.loop-init
loop-init g c = (c.requires.same_gates, part-same _, λ after back. back)

pub release-requires-clause-may_go_home : goal.release-requires-clause-may_go_home
release-requires-clause-may_go_home g c = record {
  home_of_actor = search rules;
  extends =
      let claim = c.in-Some-take.claim in
      extends-same (facts_of claim.home.value).journal (taken_with claim) (ap (λ (v : View). (held_in v).journal) c.in-Some-take.ensures.untouched.known);
  fold = c.in-Some-take.ensures.untouched.word;
  count = sym (ap (λ (v : View). (held_in v).given) c.in-Some-take.ensures.untouched.known);
  known_closed =
      let claim = c.in-Some-take.claim in
      shut-same (facts_of claim.home.value).closed_to (closed_with claim) (taking_in (claim_view claim) (pass_view c.take.new.self.registrar.pass))
      (ap (λ (v : View). (held_in v).closed_to) c.in-Some-take.ensures.untouched.known);
  drained =
      let claim = c.in-Some-take.claim in
      drained-same (facts_of claim.home.value).drained (drained_by claim) (ap (λ (v : View). (held_in v).drained) c.in-Some-take.ensures.untouched.known);
  rest =
      let claim = c.in-Some-take.claim in
      rest-open (status_of claim).closed (gave_last claim) (facts_of claim.home.value).no_backlog c.in-Some-take.ensures.untouched.open_yet
      c.in-Some-take.ensures.untouched.rest;
}

pub release-requires-clause-told : goal.release-requires-clause-told
release-requires-clause-told g c =
    let claim = c.in-Some-take.claim in
    told-nothing claim.home.value.cell.who (held_actor claim) (status_of claim).closed (facts_of claim.home.value).journal (taken_with claim)
    (recorded_by claim) (ap (λ (v : View). (held_in v).journal) c.in-Some-take.ensures.untouched.known) c.in-Some-take.ensures.untouched.recorded

pub loop-preserved : goal.loop-preserved
loop-preserved g c =
    let claim = c.in-Some-take.claim in let same = c.take.ensures.same in let ours = c.loop.invariant.0 in
    let first = (pass_view c.args.handle.registrar.pass).log in let now = (pass_view c.release.new.pass).log in
    let gives = g.K.Behaviours.gives in let old = pass_view c.loop.handle.registrar.pass in
    let given = λ (v : View). idling (held_actor claim) (facts_of claim.home.value).journal (taking_in (claim_view claim) v) in
    let known : pass_view c.release.new.pass ≡ given old = c.release.ensures.known ∙ ap (λ p. given (pass_view p)) same.0 in (
      (c.release.ensures.same_gates ∙ ap pass_id same.0 ∙ ours.0, same.2 ∙ ours.1, ours.2),
      part-trans first (pass_view c.loop.handle.registrar.pass).log now c.loop.invariant.1
          (subst (λ p. IsPart (pass_view p).log now) same.0
          (released-part (held_actor claim) (facts_of claim.home.value).journal (claim_view claim) (pass_view c.take.new.self.registrar.pass)
          (pass_view c.release.new.pass) c.release.ensures.known)),
      λ after back. c.loop.invariant.2 after (gave_one c.loop.handle.registrar.run_queue c.take.new.self.registrar.run_queue claim old after
          c.in-Some-take.ensures.taken (subst (λ v. GivesBack gives c.take.new.self.registrar.run_queue v after) known back)),
    )

pub returns-in_default-clause-back : goal.returns-in_default-clause-back
returns-in_default-clause-back g c =
    let none = c.in_default.ensures.none in let handle = c.loop.handle.registrar in
    let same : c.into_pass.result ≡ handle.pass = c.into_pass.ensures ∙ ap (λ e. e.registrar.pass) none.0 in
    c.loop.invariant.2 (pass_view c.into_pass.result)
    (subst (λ p. GivesBack g.K.Behaviours.gives handle.run_queue (pass_view handle.pass) (pass_view p)) (sym same)
    (found_none handle.run_queue (pass_view handle.pass) none.1 none.2))
