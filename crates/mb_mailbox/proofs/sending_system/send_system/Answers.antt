use Rattle.std.proofs.Common.{◌<◌, false, Some, sym, refl, ap, ◌∙◌, subst, arith}
use Rattle.std.specs.Global.{Box}
use Rattle.mb_status.specs.Mailbox.{Mailbox}
use Rattle.mb_gate.specs.NamedActors.{NamesBelow}
use Rattle.mb_gate.specs.Accessors.{actors_of, pass_view}
use Rattle.mb_gate.specs.Untouched.{origin_of}
use Rattle.mb_gate.specs.View.{View}
use Rattle.mb_home.specs.Contents.{Contents}
use Rattle.mb_register.proofs.ToldLemmas.{told-here, told-still, told-within}
use Rattle.mb_register.proofs.Views.{does-enlisting}
use Rattle.mb_mailbox.specs.RunState.{run_state}
use Rattle.mb_mailbox.specs.Notice.{asker}
use Rattle.mb_mailbox.proofs.BacklogLemmas.{keeps-then}
use Rattle.mb_register.proofs.CallerLemmas.{further-then}
use Rattle.mb_mailbox.proofs.CleanLemmas.{status-answered}
use Rattle.mb_mailbox.proofs.EmptiedLemmas.{cleared-same}
use Rattle.mb_mailbox.proofs.SendSystemLemmas.{running-caller_advances, running-sent_system, running-refused, keeps-recorded, keeps-answered, backlog-sent_system, backlog-answered}
use Rattle.mb_mailbox.proofs.ClaimLemmas.{further-listed}
use Rattle.mb_mailbox.proofs.SendSystemLemmas.{home-answered}
use Rattle.mb_mailbox.proofs.RecordedLemmas.{
  alike-one,
  alike-then,
  does-end-none,
  does-give-none,
  does-list,
  further-refused,
  refused-gives-none,
  refused-one,
  unrefused,
}
use Rattle.mb_mailbox.specs.RunSends.{listed_by}
use Rattle.mb_mailbox.proofs.StepSendsLemmas.{due-listed, due-refused}
use Rattle.mb_mailbox.proofs.sending_system.send_system.Goals as goal

-- ---- the registrar stays one of these gates

pub sys_enqueue_in_run-requires-clause-same_gates : goal.sys_enqueue_in_run-requires-clause-same_gates
sys_enqueue_in_run-requires-clause-same_gates g c = c.requires.in_acts.same_gates.0

pub insert-requires : goal.insert-requires
insert-requires g c = let below = c.requires.in_acts.running.sends.0.0 in omega (arith, below, c.requires.in_acts.same_gates.2)

pub returns-in-Ok-clause-advances : goal.returns-in-Ok-clause-advances
returns-in-Ok-clause-advances g c = record {
  same = keeps-recorded c.args.claim.now c.sys_enqueue_in_run.new.claim _ c.in-Ok.ensures.recorded;
  caller_advances =
      let below = c.requires.in_acts.running.sends.0.0 in
      further-listed c.args.to.0 c.in-Ok.field-0 c.args.node _ _ c.in-Ok.ensures.listed refl
      (omega (arith, below, c.requires.in_acts.same_gates.2), told-here c.args.to.0 _ _ c.insert.ensures.set)
      (λ other still. (still.0, told-still c.args.to.0 _ _ c.insert.ensures.set other still.1));
  sends =
      let id = c.args.to.0 in
      let a = pass_view c.args.registrar.now.pass in let b = pass_view c.sys_enqueue_in_run.new.pass in
      let did = does-enlisting id c.in-Ok.field-0 c.args.node a b c.in-Ok.ensures.listed in
      alike-one _ _ _ _ _ c.in-Ok.ensures.recorded.record_is did.sent_system (does-list id _ _ a b did) (does-give-none id _ _ a b refl did)
      (unrefused (record { to = id; message = c.args.node; was_ended = false }) a b refl (does-end-none id _ _ a b (λ to. omega arith) did));
}

pub returns-in-Ok-clause-in_acts : goal.returns-in-Ok-clause-in_acts
returns-in-Ok-clause-in_acts g c = record {
  same_gates = (
    c.sys_enqueue_in_run.ensures.same_gates ∙ c.requires.in_acts.same_gates.0,
    c.requires.in_acts.same_gates.1,
    c.requires.in_acts.same_gates.2,
    told-within c.args.to.0 _ _ c.insert.ensures.set _ c.requires.in_acts.running.sends.0.0 c.requires.in_acts.same_gates.3,
  );
  running =
      let new = c.sys_enqueue_in_run.new.claim in
      let gives = g.K.Behaviours.gives in
      let origin = origin_of c.args.gates.now in
      let seen = (pass_view c.args.registrar.now.pass).log in
      let r = running-sent_system gives origin seen c.args.to c.args.node c.args.claim.now c.requires.in_acts.running new c.in-Ok.ensures.recorded in
      running-caller_advances gives origin new.home.value.cell.acts _ _ (run_state new) (returns-in-Ok-clause-advances g c).caller_advances r;
  backlog =
      backlog-sent_system c.args.claim.now c.sys_enqueue_in_run.new.claim _ c.in-Ok.ensures.recorded c.requires.in_acts.backlog;
}

pub answer-requires-clause-same_gates : goal.answer-requires-clause-same_gates
answer-requires-clause-same_gates g c = (c.sys_enqueue_in_run.ensures.same_gates ∙ c.requires.in_acts.same_gates.0, c.requires.in_acts.same_gates.1, c.requires.in_acts.same_gates.2, c.requires.in_acts.same_gates.3)

pub sys_enqueue_in_run-requires-clause-present : goal.sys_enqueue_in_run-requires-clause-present
sys_enqueue_in_run-requires-clause-present g c = c.requires.in_acts.running.sends.0.0

pub sys_enqueue_in_run-requires-clause-named : goal.sys_enqueue_in_run-requires-clause-named
sys_enqueue_in_run-requires-clause-named g c = c.requires.in_acts.running.sends.0.1

-- ---- a list took it

pub returns-in-Ok-clause-left : goal.returns-in-Ok-clause-left
returns-in-Ok-clause-left g c = c.in-Ok.ensures.recorded.home

pub returns-in-Ok-clause-cleared : goal.returns-in-Ok-clause-cleared
returns-in-Ok-clause-cleared g c =
    let sent_system = c.in-Ok.ensures.recorded in
    cleared-same (run_state c.args.claim.now) (run_state c.sys_enqueue_in_run.new.claim) (ap (λ (m : Mailbox). m.closed) sent_system.status)
    (ap (λ (b : Box Contents). b.value.take) sent_system.home)

-- ---- it found its list ended

pub answer-requires-clause-parent : goal.answer-requires-clause-parent
answer-requires-clause-parent g c =
    subst (λ n. n < actors_of c.args.gates.now) (sym (c.actor-parent.ensures ∙ c.in-Err.ensures.recorded.actor)) c.requires.in_acts.running.present

pub answer-requires-clause-present : goal.answer-requires-clause-present
answer-requires-clause-present g c = c.requires.in_acts.running.sends.0.0

pub answer-requires-clause-named : goal.answer-requires-clause-named
answer-requires-clause-named g c =
    subst (NamesBelow (actors_of c.args.gates.now)) (sym c.in-Err.ensures.ended.0) c.requires.in_acts.running.sends.0.1

pub returns-in-Err-clause-advances : goal.returns-in-Err-clause-advances
returns-in-Err-clause-advances g c = record {
  same =
      let mid = c.sys_enqueue_in_run.new.claim in
      keeps-then _ _ _ (keeps-recorded c.args.claim.now mid _ c.in-Err.ensures.recorded)
      (keeps-answered c.args.to.0 mid c.answer.new.claim (asker (Some c.actor-parent.result) c.in-Err.field-0.0) c.answer.ensures.answered);
  caller_advances = further-then _ _ _ (further-refused _ _ _ _ c.in-Err.ensures.ended.1 refl refl) c.answer.ensures.caller_advances;
  sends =
      alike-then _ _ _ _ _ _
      (alike-one _ _ _ _ _ c.in-Err.ensures.recorded.record_is (ap (λ (v : View). v.sent_system) c.in-Err.ensures.ended.1)
      (ap (λ (v : View). listed_by v.log) c.in-Err.ensures.ended.1) (refused-gives-none _ _ _ _ c.in-Err.ensures.ended.1)
      (refused-one _ _ _ _ c.in-Err.ensures.ended.1)) c.answer.ensures.sends;
}

pub returns-in-Err-clause-in_acts : goal.returns-in-Err-clause-in_acts
returns-in-Err-clause-in_acts g c = record {
  same_gates = c.answer.ensures.same_gates;
  running =
      let mid = c.sys_enqueue_in_run.new.claim in
      let new = c.answer.new.claim in
      let gives = g.K.Behaviours.gives in
      let origin = origin_of c.args.gates.now in
      let seen = (pass_view c.args.registrar.now.pass).log in
      let r = running-refused gives origin seen c.args.to c.args.node c.args.claim.now c.requires.in_acts.running mid new c.in-Err.field-0.0
      c.actor-parent.result
      c.in-Err.ensures.ended.0 c.actor-parent.ensures c.in-Err.ensures.recorded c.answer.ensures.answered in
      running-caller_advances gives origin new.home.value.cell.acts _ _ (run_state new) (returns-in-Err-clause-advances g c).caller_advances r;
  backlog =
      let mid = c.sys_enqueue_in_run.new.claim in
      backlog-answered c.args.to.0 mid c.answer.new.claim (asker (Some c.actor-parent.result) c.in-Err.field-0.0) c.answer.ensures.answered
      (backlog-sent_system c.args.claim.now mid _ c.in-Err.ensures.recorded c.requires.in_acts.backlog);
}

pub returns-in-Err-clause-left : goal.returns-in-Err-clause-left
returns-in-Err-clause-left g c =
    let mid = c.sys_enqueue_in_run.new.claim in
    home-answered c.args.to.0 mid c.answer.new.claim (asker (Some c.actor-parent.result) c.in-Err.field-0.0) c.answer.ensures.answered
    ∙ c.in-Err.ensures.recorded.home

pub returns-in-Err-clause-cleared : goal.returns-in-Err-clause-cleared
returns-in-Err-clause-cleared g c =
    let mid = c.sys_enqueue_in_run.new.claim in
    let new = c.answer.new.claim in
    let sent_system = c.in-Err.ensures.recorded in
    let asked = asker (Some c.actor-parent.result) c.in-Err.field-0.0 in
    let told = c.answer.ensures.answered in
    cleared-same (run_state c.args.claim.now) (run_state new)
    (ap (λ (m : Mailbox). m.closed) (status-answered c.args.to.0 mid new asked told ∙ sent_system.status))
    (ap (λ (b : Box Contents). b.value.take) (home-answered c.args.to.0 mid new asked told ∙ sent_system.home))

-- ---- what was sent stands in the record

-- ---- what was due was sent

pub returns-in-Ok-clause-due : goal.returns-in-Ok-clause-due
returns-in-Ok-clause-due g c = due-listed c.args.claim.now c.sys_enqueue_in_run.new.claim c.args.to.0 c.args.node c.in-Ok.ensures.recorded

pub returns-in-Err-clause-due : goal.returns-in-Err-clause-due
returns-in-Err-clause-due g c =
    due-refused c.args.claim.now c.sys_enqueue_in_run.new.claim c.answer.new.claim c.args.to.0 c.args.node c.in-Err.field-0.0 c.actor-parent.result
    c.in-Err.ensures.ended.0 c.actor-parent.ensures c.in-Err.ensures.recorded c.answer.ensures.answered
