use Rattle.std.proofs.Common.{[], ◌∷◌, refl, sym, ap, ◌∙◌, subst}
use Rattle.std.specs.Global.{Box}
use Rattle.mb_status.specs.Mailbox.{Mailbox, word_of}
use Rattle.mb_supervision.specs.declared.act.Act.{Act as Handed}
use Rattle.mb_supervision.specs.ActQueue.{act_of}
use Rattle.mb_gate.specs.Accessors.{pass_view, status_of}
use Rattle.mb_gate.specs.SentSystem.{messages_of}
use Rattle.mb_gate.specs.Untouched.{origin_of}
use Rattle.mb_gate.specs.View.{View}
use Rattle.mb_home.specs.Contents.{Contents}
use Rattle.mb_mailbox.specs.RunState.{run_state}
use Rattle.mb_mailbox.specs.Running.{IsRunning}
use Rattle.mb_register.proofs.CallerLemmas.{further-none}
use Rattle.mb_mailbox.proofs.EmptiedLemmas.{cleared-found, cleared-same, err-always, ok-so}
use Rattle.mb_mailbox.proofs.RunningSteps.{running-suspend, suspend-closed}
use Rattle.mb_mailbox.proofs.StatusLemmas.{keeps-written, backlog-written, running-suspended, running-resumed}
use Rattle.mb_mailbox.proofs.RecordedLemmas.{alike-still}
use Rattle.mb_mailbox.proofs.RunSendsLemmas.{due-none}
use Rattle.mb_mailbox.specs.RunSends.{SendsDue}
use Rattle.mb_mailbox.proofs.acts.carry.Goals as goal

-- ---- a system message

pub send_system-requires : goal.send_system-requires
send_system-requires g c = record {
  in_acts = record {
    same_gates = c.requires.in_acts.same_gates;
    running =
        subst (λ (a : Handed). IsRunning g.K.Behaviours.gives (origin_of c.args.gates.now) (act_of a ∷ c.args.claim.now.home.value.cell.acts)
        (pass_view c.args.registrar.now.pass).log (run_state c.args.claim.now)) c.in-Sys.is c.requires.in_acts.running;
    backlog = c.requires.in_acts.backlog;
  };
}

pub returns-in-Sys-clause-in_acts : goal.returns-in-Sys-clause-in_acts
returns-in-Sys-clause-in_acts g c = record {
  same_gates = c.send_system.ensures.in_acts.same_gates;
  running = c.send_system.ensures.in_acts.running;
  backlog = c.send_system.ensures.in_acts.backlog;
}

pub returns-in-Sys-clause-advances : goal.returns-in-Sys-clause-advances
returns-in-Sys-clause-advances g c = record {
  same = c.send_system.ensures.advances.same;
  caller_advances = c.send_system.ensures.advances.caller_advances;
  sends = c.send_system.ensures.advances.sends;
}

pub returns-in-Sys-clause-ended : goal.returns-in-Sys-clause-ended
returns-in-Sys-clause-ended g c = tt

pub returns-in-Sys-clause-left : goal.returns-in-Sys-clause-left
returns-in-Sys-clause-left g c = ap (λ (b : Box Contents). b.value.cell.acts) c.send_system.ensures.left

pub returns-in-Sys-clause-cleared : goal.returns-in-Sys-clause-cleared
returns-in-Sys-clause-cleared g c = c.send_system.ensures.cleared

-- ---- a suspension

pub suspend-requires-clause-same_gates : goal.suspend-requires-clause-same_gates
suspend-requires-clause-same_gates g c = c.requires.in_acts.running.same_gates

pub suspend-requires-clause-present : goal.suspend-requires-clause-present
suspend-requires-clause-present g c = c.requires.in_acts.running.present

pub suspend-requires-clause-within_limit : goal.suspend-requires-clause-within_limit
suspend-requires-clause-within_limit g c =
    let r = subst (λ (a : Handed). IsRunning g.K.Behaviours.gives (origin_of c.args.gates.now) (act_of a ∷ c.args.claim.now.home.value.cell.acts)
    (pass_view c.args.registrar.now.pass).log (run_state c.args.claim.now)) c.in-SuspendSelf.is c.requires.in_acts.running in
    (running-suspend _ _ _ _ _ r).0

pub returns-in-SuspendSelf-clause-in_acts : goal.returns-in-SuspendSelf-clause-in_acts
returns-in-SuspendSelf-clause-in_acts g c = record {
  same_gates = c.requires.in_acts.same_gates;
  running =
      let old = c.args.claim.now in let new = c.suspend.new.claim in let did = c.suspend.ensures.written in
      let r = subst (λ (a : Handed). IsRunning g.K.Behaviours.gives (origin_of c.args.gates.now) (act_of a ∷ old.home.value.cell.acts)
      (pass_view c.args.registrar.now.pass).log (run_state old)) c.in-SuspendSelf.is c.requires.in_acts.running in
      running-suspended old new (status_of new) (word_of (status_of new)) did.same_gates did.home did.known did.taken refl g.K.Behaviours.gives
      (origin_of c.args.gates.now) (pass_view c.args.registrar.now.pass).log did.status r;
  backlog =
      let old = c.args.claim.now in let new = c.suspend.new.claim in let did = c.suspend.ensures.written in
      backlog-written old new (status_of new) (word_of (status_of new)) did.same_gates did.home did.known did.taken refl
      (ap (λ (m : Mailbox). m.closed) did.status ∙ suspend-closed (status_of old)) c.requires.in_acts.backlog;
}

pub returns-in-SuspendSelf-clause-left : goal.returns-in-SuspendSelf-clause-left
returns-in-SuspendSelf-clause-left g c = ap (λ (b : Box Contents). b.value.cell.acts) c.suspend.ensures.written.home

pub returns-in-SuspendSelf-clause-advances : goal.returns-in-SuspendSelf-clause-advances
returns-in-SuspendSelf-clause-advances g c = record {
  same =
      let old = c.args.claim.now in let new = c.suspend.new.claim in let did = c.suspend.ensures.written in
      keeps-written old new (status_of new) (word_of (status_of new)) did.same_gates did.home did.known did.taken refl;
  caller_advances = further-none _;
  sends = alike-still _ _ _ _ c.suspend.ensures.written.taken.recorded refl;
}

pub returns-in-SuspendSelf-clause-cleared : goal.returns-in-SuspendSelf-clause-cleared
returns-in-SuspendSelf-clause-cleared g c =
    let old = c.args.claim.now in let did = c.suspend.ensures.written in
    cleared-same (run_state old) (run_state c.suspend.new.claim) (ap (λ (m : Mailbox). m.closed) did.status ∙ suspend-closed (status_of old))
    (ap (λ (b : Box Contents). b.value.take) did.home)

pub returns-in-SuspendSelf-clause-ended : goal.returns-in-SuspendSelf-clause-ended
returns-in-SuspendSelf-clause-ended g c = tt

-- ---- the end of one

pub resume-requires-clause-same_gates : goal.resume-requires-clause-same_gates
resume-requires-clause-same_gates g c = c.requires.in_acts.running.same_gates

pub resume-requires-clause-present : goal.resume-requires-clause-present
resume-requires-clause-present g c = c.requires.in_acts.running.present

pub returns-in-ResumeSelf-clause-in_acts : goal.returns-in-ResumeSelf-clause-in_acts
returns-in-ResumeSelf-clause-in_acts g c = record {
  same_gates = c.requires.in_acts.same_gates;
  running =
      let old = c.args.claim.now in let new = c.resume.new.claim in let did = c.resume.ensures.written in
      let r = subst (λ (a : Handed). IsRunning g.K.Behaviours.gives (origin_of c.args.gates.now) (act_of a ∷ old.home.value.cell.acts)
      (pass_view c.args.registrar.now.pass).log (run_state old)) c.in-ResumeSelf.is c.requires.in_acts.running in
      running-resumed old new (status_of new) (word_of (status_of new)) did.same_gates did.home did.known did.taken refl g.K.Behaviours.gives
      (origin_of c.args.gates.now) (pass_view c.args.registrar.now.pass).log did.status r;
  backlog =
      let old = c.args.claim.now in let new = c.resume.new.claim in let did = c.resume.ensures.written in
      backlog-written old new (status_of new) (word_of (status_of new)) did.same_gates did.home did.known did.taken refl
      (ap (λ (m : Mailbox). m.closed) did.status) c.requires.in_acts.backlog;
}

pub returns-in-ResumeSelf-clause-left : goal.returns-in-ResumeSelf-clause-left
returns-in-ResumeSelf-clause-left g c = ap (λ (b : Box Contents). b.value.cell.acts) c.resume.ensures.written.home

pub returns-in-ResumeSelf-clause-advances : goal.returns-in-ResumeSelf-clause-advances
returns-in-ResumeSelf-clause-advances g c = record {
  same =
      let old = c.args.claim.now in let new = c.resume.new.claim in let did = c.resume.ensures.written in
      keeps-written old new (status_of new) (word_of (status_of new)) did.same_gates did.home did.known did.taken refl;
  caller_advances = further-none _;
  sends = alike-still _ _ _ _ c.resume.ensures.written.taken.recorded refl;
}

pub returns-in-ResumeSelf-clause-cleared : goal.returns-in-ResumeSelf-clause-cleared
returns-in-ResumeSelf-clause-cleared g c =
    let did = c.resume.ensures.written in
    cleared-same (run_state c.args.claim.now) (run_state c.resume.new.claim) (ap (λ (m : Mailbox). m.closed) did.status)
    (ap (λ (b : Box Contents). b.value.take) did.home)

pub returns-in-ResumeSelf-clause-ended : goal.returns-in-ResumeSelf-clause-ended
returns-in-ResumeSelf-clause-ended g c = tt

-- ---- the end

pub close-requires : goal.close-requires
close-requires g c = record {
  in_acts = record {
    same_gates = c.requires.in_acts.same_gates;
    running =
        subst (λ (a : Handed). IsRunning g.K.Behaviours.gives (origin_of c.args.gates.now) (act_of a ∷ c.args.claim.now.home.value.cell.acts)
        (pass_view c.args.registrar.now.pass).log (run_state c.args.claim.now)) c.in-CloseSelf.is c.requires.in_acts.running;
    backlog = c.requires.in_acts.backlog;
  };
}

pub returns-in-CloseSelf-clause-in_acts : goal.returns-in-CloseSelf-clause-in_acts
returns-in-CloseSelf-clause-in_acts g c = record {
  same_gates = c.close.ensures.in_acts.same_gates;
  running = c.close.ensures.in_acts.running;
  backlog = c.close.ensures.in_acts.backlog;
}

pub returns-in-CloseSelf-clause-left : goal.returns-in-CloseSelf-clause-left
returns-in-CloseSelf-clause-left g c = c.close.ensures.left

pub returns-in-CloseSelf-clause-advances : goal.returns-in-CloseSelf-clause-advances
returns-in-CloseSelf-clause-advances g c = record {
  same = c.close.ensures.advances.same;
  caller_advances = c.close.ensures.advances.caller_advances;
  sends = c.close.ensures.advances.sends;
}

pub returns-in-CloseSelf-clause-cleared : goal.returns-in-CloseSelf-clause-cleared
returns-in-CloseSelf-clause-cleared g c =
    ok-so c.close.result (cleared-found (run_state c.args.claim.now) (run_state c.close.new.claim)) c.close.ensures.emptied

pub returns-in-CloseSelf-clause-ended : goal.returns-in-CloseSelf-clause-ended
returns-in-CloseSelf-clause-ended g c = err-always c.close.result c.close.ensures.ended

-- ---- what was sent stands in the record

-- ---- what was due was sent

pub returns-in-Sys-clause-due : goal.returns-in-Sys-clause-due
returns-in-Sys-clause-due g c =
    let old = run_state c.args.claim.now in
    subst (λ (a : Handed). SendsDue (messages_of (act_of a ∷ [])) [] old (run_state c.send_system.new.claim)) (sym c.in-Sys.is) c.send_system.ensures.due

pub returns-in-SuspendSelf-clause-due : goal.returns-in-SuspendSelf-clause-due
returns-in-SuspendSelf-clause-due g c =
    let old = run_state c.args.claim.now in
    let new = run_state c.suspend.new.claim in let did = c.suspend.ensures.written in
    subst (λ (a : Handed). SendsDue (messages_of (act_of a ∷ [])) [] old new) (sym c.in-SuspendSelf.is)
    (due-none old new did.taken.recorded (ap (λ (v : View). v.log) did.known) (ap (λ (b : Box Contents). b.value.rest) did.home)
    (λ shut. ap (λ (m : Mailbox). m.closed) did.status ∙ suspend-closed (status_of c.args.claim.now) ∙ shut))

pub returns-in-ResumeSelf-clause-due : goal.returns-in-ResumeSelf-clause-due
returns-in-ResumeSelf-clause-due g c =
    let old = run_state c.args.claim.now in
    let new = run_state c.resume.new.claim in let did = c.resume.ensures.written in
    subst (λ (a : Handed). SendsDue (messages_of (act_of a ∷ [])) [] old new) (sym c.in-ResumeSelf.is)
    (due-none old new did.taken.recorded (ap (λ (v : View). v.log) did.known) (ap (λ (b : Box Contents). b.value.rest) did.home)
    (λ shut. ap (λ (m : Mailbox). m.closed) did.status ∙ shut))

pub returns-in-CloseSelf-clause-due : goal.returns-in-CloseSelf-clause-due
returns-in-CloseSelf-clause-due g c =
    let old = run_state c.args.claim.now in
    subst (λ (a : Handed). SendsDue (messages_of (act_of a ∷ [])) [] old (run_state c.close.new.claim)) (sym c.in-CloseSelf.is) c.close.ensures.due

-- ---- it is no tell

pub unreachable-unreachable : goal.unreachable-unreachable
unreachable-unreachable g c = c.requires.no_tell c.in-Tell.field-0 c.in-Tell.field-1 c.in-Tell.is
