use Rattle.std.proofs.Common.{◌≡◌, ◌∷◌, [], ◌++◌, append_assoc, append-nil, ℕ, List, length, refl, sym, ap, ◌∙◌, subst, arith}
use Rattle.std.specs.Prelude.{◌&&◌, is_ok}
use Rattle.mb_supervision.specs.declared.act.Act.{Act as Handed}
use Rattle.mb_supervision.specs.ActQueue.{act_of}
use Rattle.mb_cell.specs.CellView.{CellView}
use Rattle.mb_journal.specs.Acts.{Act}
use Rattle.mb_gate.specs.Accessors.{pass_view}
use Rattle.mb_gate.specs.SentSystem.{messages_of}
use Rattle.mb_gate.specs.Untouched.{origin_of}
use Rattle.mb_home.specs.Contents.{Contents}
use Rattle.mb_mailbox.specs.RunState.{RunState, run_state}
use Rattle.mb_mailbox.specs.Running.{IsRunning}
use Rattle.mb_mailbox.proofs.AppliedLemmas.{ended-either, ended-keeps}
use Rattle.mb_mailbox.proofs.BacklogLemmas.{keeps-same, keeps-then}
use Rattle.mb_register.proofs.CallerLemmas.{further-none, further-then}
use Rattle.mb_mailbox.proofs.EmptiedLemmas.{and-both, and-one, cleared-same, cleared-then, err-so, ok-so, ok-then}
use Rattle.mb_mailbox.proofs.TellingLemmas.{start_of, home-next, running-gave, backlog-next, keeps-next}
use Rattle.mb_mailbox.proofs.RecordedLemmas.{alike-looks, alike-still, alike-then}
use Rattle.mb_mailbox.proofs.SendSystemLemmas.{running-caller_advances}
use Rattle.mb_mailbox.proofs.RunSendsLemmas.{due-none, due-then, one-first}
use Rattle.mb_msg.specs.declared.system.SysMsg.{SysMsg}
use Rattle.mb_mailbox.specs.RunSends.{SendsDue}
use Rattle.mb_mailbox.proofs.acts.carry_out.Goals as goal

pub loop-act-init : goal.loop-act-init
loop-act-init g c = (
  c.requires.in_acts.same_gates,
  c.requires.in_acts.running,
  c.requires.in_acts.backlog,
  keeps-same _,
  further-none _,
  λ clean. cleared-same (run_state c.args.claim.now) (run_state c.args.claim.now) refl refl,
  λ not_clean. absurd (cc not_clean),
  alike-still _ _ _ _ refl refl,
  record { due = []; left = refl; sends = due-none (run_state c.args.claim.now) (run_state c.args.claim.now) refl refl refl (λ shut. shut) },
)

-- ---- a tell is left

pub tell-requires : goal.tell-requires
tell-requires g c = record {
  in_acts = record {
    same_gates = c.loop-act.invariant.0;
    running =
        let here = c.behind-claim.view_is ∙ c.deref_mut.ensures.value in
        let new : Contents = record (start_of here) { cell = c.next_act.new.self } in
        subst (λ (a : Handed). IsRunning g.K.Behaviours.gives (origin_of c.args.gates.now) (act_of a ∷ new.cell.acts) (pass_view c.loop-act.registrar.pass).log
        (record (run_state c.loop-act.claim) { home = new })) c.in-Tell.is
        (running-gave (run_state c.loop-act.claim) _ here c.next_act.new.self c.next_act.ensures.rest g.K.Behaviours.gives (origin_of c.args.gates.now)
        (pass_view c.loop-act.registrar.pass).log (act_of c.in-Some.act ∷ new.cell.acts) c.in-Some.ensures.taken c.loop-act.invariant.1);
    backlog =
        let here = c.behind-claim.view_is ∙ c.deref_mut.ensures.value in
        let new : Contents = record (start_of here) { cell = c.next_act.new.self } in
        let same = home-next (run_state c.loop-act.claim) _ here c.next_act.new.self c.next_act.ensures.rest in
        backlog-next (run_state c.loop-act.claim) new same c.loop-act.invariant.2;
  };
}

pub register_if_awaited-requires : goal.register_if_awaited-requires
register_if_awaited-requires g c = record { same_gates = c.tell.ensures.in_acts.same_gates }

pub loop-act-preserved-in-Tell : goal.loop-act-preserved-in-Tell
loop-act-preserved-in-Tell g c =
    let here = c.behind-claim.view_is ∙ c.deref_mut.ensures.value in
    let new : Contents = record (start_of here) { cell = c.next_act.new.self } in
    let same = home-next (run_state c.loop-act.claim) _ here c.next_act.new.self c.next_act.ensures.rest in (
      c.register_if_awaited.ensures.same_gates,
      running-caller_advances g.K.Behaviours.gives (origin_of c.args.gates.now) c.tell.new.claim.home.value.cell.acts _ _ (run_state c.tell.new.claim)
          c.register_if_awaited.ensures.caller_advances c.tell.ensures.in_acts.running,
      c.tell.ensures.in_acts.backlog,
      keeps-then _ _ _ c.loop-act.invariant.3 (keeps-then _ _ _ (keeps-next (run_state c.loop-act.claim) new same) c.tell.ensures.advances.same),
      further-then _ _ _ c.loop-act.invariant.4 (further-then _ _ _ c.tell.ensures.advances.caller_advances c.register_if_awaited.ensures.caller_advances),
      λ clean. let before = run_state c.loop-act.claim in
          let next : RunState = record before { home = new } in
          cleared-then (run_state c.args.claim.now) before (run_state c.tell.new.claim) c.loop-act.invariant.3.same.takes (c.loop-act.invariant.5 clean)
          (cleared-then before next (run_state c.tell.new.claim) (keeps-next before new same).same.takes
          (cleared-same before next refl (ap (λ (x : Contents). x.take) same)) c.tell.ensures.cleared),
      λ not_clean. let before = run_state c.loop-act.claim in
          ended-keeps before (run_state c.tell.new.claim)
          (keeps-then before (record before { home = new }) (run_state c.tell.new.claim) (keeps-next before new same) c.tell.ensures.advances.same)
          (c.loop-act.invariant.6 not_clean),
      alike-then _ _ _ _ _ _ c.loop-act.invariant.7 (alike-then _ _ _ _ _ _ c.tell.ensures.advances.sends (alike-looks _ _ _ c.register_if_awaited.ensures.looks _)),
      let inv = c.loop-act.invariant in
          let before = run_state c.loop-act.claim in
          let next : RunState = record before { home = new } in
          let last = run_state c.tell.new.claim in
          let sent = messages_of (act_of c.in-Some.act ∷ []) in
          let taken = sym (ap (λ (x : Contents). x.cell.acts) here) ∙ c.in-Some.ensures.taken in
          let rest = ap (λ (x : Contents). x.rest) same in
          let keeps = (keeps-next before new same).same in
          let step = due-then before next last keeps.actor keeps.who [] [] sent [] (due-none before next refl refl rest (λ shut. shut))
          (subst (λ (a : Handed). SendsDue (messages_of (act_of a ∷ [])) [] next last) (sym c.in-Tell.is) c.tell.ensures.due) in
          record {
            due = inv.8.due ++ sent;
            left =
                inv.8.left ∙ ap (λ l. inv.8.due ++ messages_of l) taken ∙ ap (λ l. inv.8.due ++ l) (one-first (act_of c.in-Some.act) new.cell.acts)
                ∙ sym (append_assoc inv.8.due sent (messages_of new.cell.acts))
                ∙ ap (λ l. (inv.8.due ++ sent) ++ messages_of l) (sym (ap (λ (x : CellView). x.acts) c.tell.ensures.left));
            sends = due-then (run_state c.args.claim.now) before last inv.3.same.actor inv.3.same.who inv.8.due [] sent [] inv.8.sends step;
          },
    )

pub loop-act-smaller-in-Tell : goal.loop-act-smaller-in-Tell
loop-act-smaller-in-Tell g c =
    let left = ap (λ (x : CellView). length x.acts) c.tell.ensures.left in
    let here = c.behind-claim.view_is ∙ c.deref_mut.ensures.value in
    let taken = sym (ap (λ (x : Contents). x.cell.acts) here) ∙ c.in-Some.ensures.taken in
    let before = ap (λ (l : List Act). length l) taken in
    omega (arith, left, before)

-- ---- another act is left

pub carry-requires-clause-in_acts : goal.carry-requires-clause-in_acts
carry-requires-clause-in_acts g c = record {
  same_gates = c.loop-act.invariant.0;
  running =
      let here = c.behind-claim.view_is ∙ c.deref_mut.ensures.value in
      let new : Contents = record (start_of here) { cell = c.next_act.new.self } in
      running-gave (run_state c.loop-act.claim) _ here c.next_act.new.self c.next_act.ensures.rest g.K.Behaviours.gives (origin_of c.args.gates.now)
      (pass_view c.loop-act.registrar.pass).log (act_of c.in-Some.act ∷ new.cell.acts) c.in-Some.ensures.taken c.loop-act.invariant.1;
  backlog =
      let here = c.behind-claim.view_is ∙ c.deref_mut.ensures.value in
      let new : Contents = record (start_of here) { cell = c.next_act.new.self } in
      let same = home-next (run_state c.loop-act.claim) _ here c.next_act.new.self c.next_act.ensures.rest in
      backlog-next (run_state c.loop-act.claim) new same c.loop-act.invariant.2;
}

pub carry-requires-clause-no_tell : goal.carry-requires-clause-no_tell
carry-requires-clause-no_tell g c = c.in_default-act.not-Tell

pub register_if_awaited-requires-in_default-act : goal.register_if_awaited-requires-in_default-act
register_if_awaited-requires-in_default-act g c = record { same_gates = c.carry.ensures.in_acts.same_gates }

pub loop-act-preserved : goal.loop-act-preserved
loop-act-preserved g c =
    let here = c.behind-claim.view_is ∙ c.deref_mut.ensures.value in
    let new : Contents = record (start_of here) { cell = c.next_act.new.self } in
    let same = home-next (run_state c.loop-act.claim) _ here c.next_act.new.self c.next_act.ensures.rest in (
      c.register_if_awaited-in_default-act.ensures.same_gates,
      running-caller_advances g.K.Behaviours.gives (origin_of c.args.gates.now) c.carry.new.claim.home.value.cell.acts _ _ (run_state c.carry.new.claim)
          c.register_if_awaited-in_default-act.ensures.caller_advances c.carry.ensures.in_acts.running,
      c.carry.ensures.in_acts.backlog,
      keeps-then _ _ _ c.loop-act.invariant.3 (keeps-then _ _ _ (keeps-next (run_state c.loop-act.claim) new same) c.carry.ensures.advances.same),
      further-then _ _ _ c.loop-act.invariant.4 (further-then _ _ _ c.carry.ensures.advances.caller_advances c.register_if_awaited-in_default-act.ensures.caller_advances),
      λ clean. let both = and-both c.loop-act.is_clean c.is_ok-is_clean.result clean in
          let before = run_state c.loop-act.claim in
          let next : RunState = record before { home = new } in
          let carried = ok-then c.carry.result (sym c.is_ok-is_clean.ensures.value ∙ both.1) c.carry.ensures.cleared in
          cleared-then (run_state c.args.claim.now) before (run_state c.carry.new.claim) c.loop-act.invariant.3.same.takes (c.loop-act.invariant.5 both.0)
          (cleared-then before next (run_state c.carry.new.claim) (keeps-next before new same).same.takes
          (cleared-same before next refl (ap (λ (x : Contents). x.take) same)) carried),
      λ not_clean. let before = run_state c.loop-act.claim in
          let keeps = keeps-then before (record before { home = new }) (run_state c.carry.new.claim) (keeps-next before new same) c.carry.ensures.advances.same in
          ended-either before (run_state c.carry.new.claim) c.carry.result keeps c.loop-act.invariant.6 c.carry.ensures.ended
          (and-one c.loop-act.is_clean (is_ok c.carry.result)
          (ap (λ b. c.loop-act.is_clean && b) (sym c.is_ok-is_clean.ensures.value) ∙ not_clean)),
      alike-then _ _ _ _ _ _ c.loop-act.invariant.7 (alike-then _ _ _ _ _ _ c.carry.ensures.advances.sends (alike-looks _ _ _ c.register_if_awaited-in_default-act.ensures.looks _)),
      let inv = c.loop-act.invariant in
          let before = run_state c.loop-act.claim in
          let next : RunState = record before { home = new } in
          let last = run_state c.carry.new.claim in
          let sent = messages_of (act_of c.in-Some.act ∷ []) in
          let taken = sym (ap (λ (x : Contents). x.cell.acts) here) ∙ c.in-Some.ensures.taken in
          let rest = ap (λ (x : Contents). x.rest) same in
          let keeps = (keeps-next before new same).same in
          let step = due-then before next last keeps.actor keeps.who [] [] sent [] (due-none before next refl refl rest (λ shut. shut)) c.carry.ensures.due in
          record {
            due = inv.8.due ++ sent;
            left =
                inv.8.left ∙ ap (λ l. inv.8.due ++ messages_of l) taken ∙ ap (λ l. inv.8.due ++ l) (one-first (act_of c.in-Some.act) new.cell.acts)
                ∙ sym (append_assoc inv.8.due sent (messages_of new.cell.acts))
                ∙ ap (λ l. (inv.8.due ++ sent) ++ messages_of l) (sym c.carry.ensures.left);
            sends = due-then (run_state c.args.claim.now) before last inv.3.same.actor inv.3.same.who inv.8.due [] sent [] inv.8.sends step;
          },
    )

pub loop-act-smaller : goal.loop-act-smaller
loop-act-smaller g c =
    let left = ap (λ (l : List Act). length l) c.carry.ensures.left in
    let here = c.behind-claim.view_is ∙ c.deref_mut.ensures.value in
    let taken = sym (ap (λ (x : Contents). x.cell.acts) here) ∙ c.in-Some.ensures.taken in
    let before = ap (λ (l : List Act). length l) taken in
    omega (arith, left, before)

-- ---- none is left, and the run told nobody anything that it has not registered since

pub returns-then-has_looked-clause-in_acts : goal.returns-then-has_looked-clause-in_acts
returns-then-has_looked-clause-in_acts g c = record {
  same_gates = c.loop-act.invariant.0;
  running =
      let here = c.behind-claim.view_is ∙ c.deref_mut.ensures.value in
      let new : Contents = record (start_of here) { cell = c.next_act.new.self } in
      let none : new.cell.acts ≡ [] = sym c.in_default.ensures.taken ∙ c.in_default.ensures.none in
      subst (λ l. IsRunning g.K.Behaviours.gives (origin_of c.args.gates.now) l (pass_view c.loop-act.registrar.pass).log
      (record (run_state c.loop-act.claim) { home = new })) none
      (running-gave (run_state c.loop-act.claim) _ here c.next_act.new.self c.next_act.ensures.rest g.K.Behaviours.gives (origin_of c.args.gates.now)
      (pass_view c.loop-act.registrar.pass).log new.cell.acts c.in_default.ensures.taken c.loop-act.invariant.1);
  backlog =
      let here = c.behind-claim.view_is ∙ c.deref_mut.ensures.value in
      let new : Contents = record (start_of here) { cell = c.next_act.new.self } in
      let same = home-next (run_state c.loop-act.claim) _ here c.next_act.new.self c.next_act.ensures.rest in
      backlog-next (run_state c.loop-act.claim) new same c.loop-act.invariant.2;
}

pub returns-then-has_looked-clause-carried_out : goal.returns-then-has_looked-clause-carried_out
returns-then-has_looked-clause-carried_out g c = sym c.in_default.ensures.taken ∙ c.in_default.ensures.none

pub returns-then-has_looked-clause-advances : goal.returns-then-has_looked-clause-advances
returns-then-has_looked-clause-advances g c = record {
  same =
      let here = c.behind-claim.view_is ∙ c.deref_mut.ensures.value in
      let new : Contents = record (start_of here) { cell = c.next_act.new.self } in
      let same = home-next (run_state c.loop-act.claim) _ here c.next_act.new.self c.next_act.ensures.rest in
      keeps-then _ _ _ c.loop-act.invariant.3 (keeps-next (run_state c.loop-act.claim) new same);
  caller_advances = c.loop-act.invariant.4;
  sends = c.loop-act.invariant.7;
}

pub returns-then-has_looked-clause-cleared : goal.returns-then-has_looked-clause-cleared
returns-then-has_looked-clause-cleared g c =
    let here = c.behind-claim.view_is ∙ c.deref_mut.ensures.value in
    let new : Contents = record (start_of here) { cell = c.next_act.new.self } in
    let same = home-next (run_state c.loop-act.claim) _ here c.next_act.new.self c.next_act.ensures.rest in
    let before = run_state c.loop-act.claim in
    ok-so c.answer_of.result
    (λ clean. cleared-then (run_state c.args.claim.now) before (record before { home = new }) c.loop-act.invariant.3.same.takes
    (c.loop-act.invariant.5 clean)
    (cleared-same before (record before { home = new }) refl (ap (λ (x : Contents). x.take) same))) c.answer_of.ensures.clean

pub returns-then-has_looked-clause-ended : goal.returns-then-has_looked-clause-ended
returns-then-has_looked-clause-ended g c =
    let here = c.behind-claim.view_is ∙ c.deref_mut.ensures.value in
    let new : Contents = record (start_of here) { cell = c.next_act.new.self } in
    let same = home-next (run_state c.loop-act.claim) _ here c.next_act.new.self c.next_act.ensures.rest in
    let before = run_state c.loop-act.claim in
    err-so c.answer_of.result
    (λ not_clean. ended-keeps before (record before { home = new }) (keeps-next before new same) (c.loop-act.invariant.6 not_clean))
    c.answer_of.ensures.not_clean

pub returns-then-has_looked-clause-due : goal.returns-then-has_looked-clause-due
returns-then-has_looked-clause-due g c =
    let inv = c.loop-act.invariant in
    let here = c.behind-claim.view_is ∙ c.deref_mut.ensures.value in
    let new : Contents = record (start_of here) { cell = c.next_act.new.self } in
    let same = home-next (run_state c.loop-act.claim) _ here c.next_act.new.self c.next_act.ensures.rest in
    let before = run_state c.loop-act.claim in
    let next : RunState = record before { home = new } in
    let none = sym (ap (λ (x : Contents). x.cell.acts) here) ∙ c.in_default.ensures.none in
    let all = inv.8.left ∙ ap (λ l. inv.8.due ++ messages_of l) none ∙ append-nil inv.8.due in
    let last = due-none before next refl refl (ap (λ (x : Contents). x.rest) same) (λ shut. shut) in
    subst (λ (x : List (ℕ × SysMsg)). SendsDue x [] (run_state c.args.claim.now) next) (append-nil inv.8.due ∙ sym all)
    (due-then (run_state c.args.claim.now) before next inv.3.same.actor inv.3.same.who inv.8.due [] [] [] inv.8.sends last)

-- ---- none is left

pub returns-clause-carried_out : goal.returns-clause-carried_out
returns-clause-carried_out g c = sym c.in_default.ensures.taken ∙ c.in_default.ensures.none

pub returns-clause-advances : goal.returns-clause-advances
returns-clause-advances g c = record {
  same =
      let here = c.behind-claim.view_is ∙ c.deref_mut.ensures.value in
      let new : Contents = record (start_of here) { cell = c.next_act.new.self } in
      let same = home-next (run_state c.loop-act.claim) _ here c.next_act.new.self c.next_act.ensures.rest in
      keeps-then _ _ _ c.loop-act.invariant.3 (keeps-next (run_state c.loop-act.claim) new same);
  caller_advances = further-then _ _ _ c.loop-act.invariant.4 c.register_told.ensures.caller_advances;
  sends = alike-then _ _ _ _ _ _ c.loop-act.invariant.7 (alike-looks _ _ _ c.register_told.ensures.looks _);
}

pub returns-clause-cleared : goal.returns-clause-cleared
returns-clause-cleared g c =
    let here = c.behind-claim.view_is ∙ c.deref_mut.ensures.value in
    let new : Contents = record (start_of here) { cell = c.next_act.new.self } in
    let same = home-next (run_state c.loop-act.claim) _ here c.next_act.new.self c.next_act.ensures.rest in
    let before = run_state c.loop-act.claim in
    ok-so c.answer_of-2.result
    (λ clean. cleared-then (run_state c.args.claim.now) before (record before { home = new }) c.loop-act.invariant.3.same.takes
    (c.loop-act.invariant.5 clean)
    (cleared-same before (record before { home = new }) refl (ap (λ (x : Contents). x.take) same))) c.answer_of-2.ensures.clean

pub returns-clause-ended : goal.returns-clause-ended
returns-clause-ended g c =
    let here = c.behind-claim.view_is ∙ c.deref_mut.ensures.value in
    let new : Contents = record (start_of here) { cell = c.next_act.new.self } in
    let same = home-next (run_state c.loop-act.claim) _ here c.next_act.new.self c.next_act.ensures.rest in
    let before = run_state c.loop-act.claim in
    err-so c.answer_of-2.result
    (λ not_clean. ended-keeps before (record before { home = new }) (keeps-next before new same) (c.loop-act.invariant.6 not_clean))
    c.answer_of-2.ensures.not_clean

pub returns-clause-due : goal.returns-clause-due
returns-clause-due g c =
    let inv = c.loop-act.invariant in
    let here = c.behind-claim.view_is ∙ c.deref_mut.ensures.value in
    let new : Contents = record (start_of here) { cell = c.next_act.new.self } in
    let same = home-next (run_state c.loop-act.claim) _ here c.next_act.new.self c.next_act.ensures.rest in
    let before = run_state c.loop-act.claim in
    let next : RunState = record before { home = new } in
    let none = sym (ap (λ (x : Contents). x.cell.acts) here) ∙ c.in_default.ensures.none in
    let all = inv.8.left ∙ ap (λ l. inv.8.due ++ messages_of l) none ∙ append-nil inv.8.due in
    let last = due-none before next refl refl (ap (λ (x : Contents). x.rest) same) (λ shut. shut) in
    subst (λ (x : List (ℕ × SysMsg)). SendsDue x [] (run_state c.args.claim.now) next) (append-nil inv.8.due ∙ sym all)
    (due-then (run_state c.args.claim.now) before next inv.3.same.actor inv.3.same.who inv.8.due [] [] [] inv.8.sends last)

pub register_told-requires : goal.register_told-requires
register_told-requires g c = record { same_gates = c.loop-act.invariant.0 }

pub returns-clause-in_acts : goal.returns-clause-in_acts
returns-clause-in_acts g c = record {
  same_gates = c.register_told.ensures.same_gates;
  running =
      let here = c.behind-claim.view_is ∙ c.deref_mut.ensures.value in
      let new : Contents = record (start_of here) { cell = c.next_act.new.self } in
      let none : new.cell.acts ≡ [] = sym c.in_default.ensures.taken ∙ c.in_default.ensures.none in
      running-caller_advances g.K.Behaviours.gives (origin_of c.args.gates.now) [] _ _ (record (run_state c.loop-act.claim) { home = new })
      c.register_told.ensures.caller_advances
      (subst (λ l. IsRunning g.K.Behaviours.gives (origin_of c.args.gates.now) l (pass_view c.loop-act.registrar.pass).log
      (record (run_state c.loop-act.claim) { home = new })) none
      (running-gave (run_state c.loop-act.claim) _ here c.next_act.new.self c.next_act.ensures.rest g.K.Behaviours.gives (origin_of c.args.gates.now)
      (pass_view c.loop-act.registrar.pass).log new.cell.acts c.in_default.ensures.taken c.loop-act.invariant.1));
  backlog =
      let here = c.behind-claim.view_is ∙ c.deref_mut.ensures.value in
      let new : Contents = record (start_of here) { cell = c.next_act.new.self } in
      let same = home-next (run_state c.loop-act.claim) _ here c.next_act.new.self c.next_act.ensures.rest in
      backlog-next (run_state c.loop-act.claim) new same c.loop-act.invariant.2;
}
