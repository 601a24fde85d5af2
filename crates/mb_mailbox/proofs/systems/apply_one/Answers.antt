use Rattle.std.proofs.Common.{◌≡◌, List, [], false, refl, sym, ap, ◌∙◌, subst, arith}
use Rattle.mb_journal.specs.Acts.{Act}
use Rattle.mb_journal.specs.Life.{closed}
use Rattle.mb_cell.specs.CellView.{CellView}
use Rattle.mb_gate.specs.Accessors.{pass_view}
use Rattle.mb_gate.specs.Untouched.{origin_of}
use Rattle.mb_home.specs.Carried.{LeadsOn}
use Rattle.mb_home.specs.Contents.{Contents}
use Rattle.mb_home.specs.AgreesWithJournal.{AgreesWithJournal}
use Rattle.mb_home.specs.Steps.{HasNext, AppliesNext}
use Rattle.mb_mailbox.specs.RunState.{RunState, run_state}
use Rattle.mb_mailbox.specs.Running.{IsRunning}
use Rattle.mb_mailbox.proofs.AppliedLemmas.{same-keeps, acts-ready, keeps-ready, backlog-ready, running-ready}
use Rattle.mb_mailbox.proofs.AppliedLemmas.{entries-ready, ready-then, systems-fit}
use Rattle.mb_mailbox.proofs.BacklogLemmas.{same-run-then}
use Rattle.mb_register.proofs.CallerLemmas.{further-none}
use Rattle.mb_mailbox.proofs.EmptiedLemmas.{cleared-open, cleared-then, ok-so, takes-same}
use Rattle.mb_mailbox.proofs.InRunLemmas.{ok-passed, stops-carried, stops-passed, stops-ready}
use Rattle.mb_mailbox.proofs.RunningMoves.{journal-open, running-applied, backlog-applied}
use Rattle.mb_mailbox.proofs.RunCountLemmas.{run_counts-keeps, run_counts-applied, same-applied}
use Rattle.mb_mailbox.proofs.RecordedLemmas.{alike-still}
use Rattle.mb_mailbox.proofs.StepSendsLemmas.{entries-applied}
use Rattle.mb_mailbox.proofs.systems.apply_one.Goals as goal

-- ---- there was no room

pub returns-in_err-ready-clause-in_run : goal.returns-in_err-ready-clause-in_run
returns-in_err-ready-clause-in_run g c =
    let same = subst (λ (x : Contents). c.ready.new.self
    ≡ record x { cell = record x.cell { is_ready = c.ready.new.self.cell.is_ready }; room = c.ready.new.self.room }) c.deref_mut.ensures.value
    c.ready.ensures.same in
    let kept = subst (λ (x : Contents). (pending : List Act) → AgreesWithJournal (g.K.Behaviours.gives x.cell.who.this.0) pending x →
    AgreesWithJournal (g.K.Behaviours.gives c.ready.new.self.cell.who.this.0) pending c.ready.new.self) c.deref_mut.ensures.value c.ready.ensures.settled in
    let old = run_state c.args.claim.now in let before = c.requires.in_run in record {
      same_gates = before.same_gates;
      running =
          running-ready old c.ready.new.self _ _ same g.K.Behaviours.gives (origin_of c.args.gates.now) (pass_view c.args.registrar.now.pass).log
          before.running kept;
      backlog = backlog-ready old c.ready.new.self _ _ same before.backlog;
      carried_out = acts-ready old c.ready.new.self _ _ same ∙ before.carried_out;
      run_counts = run_counts-keeps old _ c.args.turn.now (keeps-ready old c.ready.new.self _ _ same) before.run_counts;
    }

pub returns-in_err-ready-clause-advances : goal.returns-in_err-ready-clause-advances
returns-in_err-ready-clause-advances g c =
    let same = subst (λ (x : Contents). c.ready.new.self
    ≡ record x { cell = record x.cell { is_ready = c.ready.new.self.cell.is_ready }; room = c.ready.new.self.room }) c.deref_mut.ensures.value
    c.ready.ensures.same in
    record {
      same = (keeps-ready (run_state c.args.claim.now) c.ready.new.self _ _ same).same;
      cleared = ok-passed _ c.from_residual.result c.in_err-ready.field-0.0 c.from_residual.ensures.1;
      caller_advances = further-none _;
      sends = alike-still _ _ _ _ refl refl;
      entries = entries-ready (run_state c.args.claim.now) c.ready.new.self _ _ same;
    }

pub returns-in_err-ready-clause-stops : goal.returns-in_err-ready-clause-stops
returns-in_err-ready-clause-stops g c =
    stops-passed c.ready.result c.from_residual.result c.in_err-ready.field-0.0 _ c.in_err-ready.was c.from_residual.ensures.1
    (stops-ready c.ready.result c.deref_mut.result.now _ c.ready.ensures.same c.ready.ensures.full)

-- ---- there was

pub apply_next-requires-clause-carried_out : goal.apply_next-requires-clause-carried_out
apply_next-requires-clause-carried_out g c =
    let same = subst (λ (x : Contents). c.ready.new.self
    ≡ record x { cell = record x.cell { is_ready = c.ready.new.self.cell.is_ready }; room = c.ready.new.self.room }) c.deref_mut.ensures.value
    c.ready.ensures.same in
    subst (λ (x : Contents). x.cell.acts ≡ []) (sym c.deref_mut-2.ensures.value)
    (acts-ready (run_state c.args.claim.now) c.ready.new.self _ _ same ∙ c.requires.in_run.carried_out)

pub apply_next-requires-clause-not_ended : goal.apply_next-requires-clause-not_ended
apply_next-requires-clause-not_ended g c =
    let same = subst (λ (x : Contents). c.ready.new.self
    ≡ record x { cell = record x.cell { is_ready = c.ready.new.self.cell.is_ready }; room = c.ready.new.self.room }) c.deref_mut.ensures.value
    c.ready.ensures.same in
    let kept = subst (λ (x : Contents). (pending : List Act) → AgreesWithJournal (g.K.Behaviours.gives x.cell.who.this.0) pending x →
    AgreesWithJournal (g.K.Behaviours.gives c.ready.new.self.cell.who.this.0) pending c.ready.new.self) c.deref_mut.ensures.value c.ready.ensures.settled in
    let r = running-ready (run_state c.args.claim.now) c.ready.new.self _ _ same g.K.Behaviours.gives (origin_of c.args.gates.now)
    (pass_view c.args.registrar.now.pass).log c.requires.in_run.running kept in
    subst (λ (x : Contents). closed x.cell.who x.cell.journal ≡ false) (sym c.deref_mut-2.ensures.value)
    (journal-open (record (run_state c.args.claim.now) { home = c.ready.new.self }) r.leads c.requires.not_closed)

pub apply_next-requires-clause-due : goal.apply_next-requires-clause-due
apply_next-requires-clause-due g c =
    let same = subst (λ (x : Contents). c.ready.new.self
    ≡ record x { cell = record x.cell { is_ready = c.ready.new.self.cell.is_ready }; room = c.ready.new.self.room }) c.deref_mut.ensures.value
    c.ready.ensures.same in
    subst (λ (x : Contents). HasNext x) (sym c.deref_mut-2.ensures.value)
    (subst (λ (x : Contents). HasNext x) (sym same) c.requires.due)

pub apply_next-requires-clause-settled : goal.apply_next-requires-clause-settled
apply_next-requires-clause-settled g c =
    let kept = subst (λ (x : Contents). (pending : List Act) → AgreesWithJournal (g.K.Behaviours.gives x.cell.who.this.0) pending x →
    AgreesWithJournal (g.K.Behaviours.gives c.ready.new.self.cell.who.this.0) pending c.ready.new.self) c.deref_mut.ensures.value c.ready.ensures.settled in
    let h = run_state c.args.claim.now in
    let own = subst (λ n. AgreesWithJournal (g.K.Behaviours.gives n) [] h.home) (sym c.requires.in_run.running.number) c.requires.in_run.running.settled in
    subst (λ (x : Contents). AgreesWithJournal (g.K.Behaviours.gives x.cell.who.this.0) [] x) (sym c.deref_mut-2.ensures.value)
    (kept [] own)

pub overflow_add-turn : goal.overflow_add-turn
overflow_add-turn g c =
    let few = systems-fit _ _ _ (run_state c.args.claim.now) [] c.args.turn.now c.requires.in_run.running c.requires.in_run.run_counts in omega (arith, few)

pub carry_out-requires : goal.carry_out-requires
carry_out-requires g c = record {
  in_acts = record {
    same_gates = c.requires.in_run.same_gates;
    running =
        let same = subst (λ (x : Contents). c.ready.new.self
        ≡ record x { cell = record x.cell { is_ready = c.ready.new.self.cell.is_ready }; room = c.ready.new.self.room }) c.deref_mut.ensures.value
        c.ready.ensures.same in
        let kept = subst (λ (x : Contents). (pending : List Act) → AgreesWithJournal (g.K.Behaviours.gives x.cell.who.this.0) pending x →
        AgreesWithJournal (g.K.Behaviours.gives c.ready.new.self.cell.who.this.0) pending c.ready.new.self) c.deref_mut.ensures.value c.ready.ensures.settled in
        let applied = subst (λ (x : Contents). AppliesNext x c.apply_next.new.self) c.deref_mut-2.ensures.value c.apply_next.ensures.applied in
        let leads = subst (λ (x : Contents). LeadsOn x c.apply_next.new.self) c.deref_mut-2.ensures.value c.apply_next.ensures.leads in
        let gives = g.K.Behaviours.gives in
        let origin = origin_of c.args.gates.now in
        let seen = (pass_view c.args.registrar.now.pass).log in
        let h : RunState = record (run_state c.args.claim.now) { home = c.ready.new.self } in
        let new : Contents = c.apply_next.new.self in
        let a = applied in
        let r : IsRunning gives origin [] seen h = running-ready (run_state c.args.claim.now) c.ready.new.self _ _ same gives origin seen
        c.requires.in_run.running kept in
        let here : new.cell.who.this.0 ≡ h.actor = ap (λ (x : CellView). x.who.this.0) a.taken.adds ∙ r.number in
        running-applied gives origin seen h new r a leads
        (subst (λ n. AgreesWithJournal (gives n) new.cell.acts new) here c.apply_next.ensures.settled);
    backlog =
        let same = subst (λ (x : Contents). c.ready.new.self
        ≡ record x { cell = record x.cell { is_ready = c.ready.new.self.cell.is_ready }; room = c.ready.new.self.room }) c.deref_mut.ensures.value
        c.ready.ensures.same in
        let kept = subst (λ (x : Contents). (pending : List Act) → AgreesWithJournal (g.K.Behaviours.gives x.cell.who.this.0) pending x →
        AgreesWithJournal (g.K.Behaviours.gives c.ready.new.self.cell.who.this.0) pending c.ready.new.self) c.deref_mut.ensures.value c.ready.ensures.settled in
        let applied = subst (λ (x : Contents). AppliesNext x c.apply_next.new.self) c.deref_mut-2.ensures.value c.apply_next.ensures.applied in
        let gives = g.K.Behaviours.gives in
        let origin = origin_of c.args.gates.now in
        let seen = (pass_view c.args.registrar.now.pass).log in
        let h : RunState = record (run_state c.args.claim.now) { home = c.ready.new.self } in
        let r : IsRunning gives origin [] seen h = running-ready (run_state c.args.claim.now) c.ready.new.self _ _ same gives origin seen
        c.requires.in_run.running kept in
        let s = backlog-ready (run_state c.args.claim.now) c.ready.new.self _ _ same c.requires.in_run.backlog in
        let next = subst (λ (x : Contents). HasNext x) (sym same) c.requires.due in
        backlog-applied gives origin seen h c.apply_next.new.self r s c.requires.not_closed next applied;
  };
}

pub returns-clause-in_run : goal.returns-clause-in_run
returns-clause-in_run g c =
    let same = subst (λ (x : Contents). c.ready.new.self
    ≡ record x { cell = record x.cell { is_ready = c.ready.new.self.cell.is_ready }; room = c.ready.new.self.room }) c.deref_mut.ensures.value
    c.ready.ensures.same in
    let applied = subst (λ (x : Contents). AppliesNext x c.apply_next.new.self) c.deref_mut-2.ensures.value c.apply_next.ensures.applied in
    let old = run_state c.args.claim.now in
    let h : RunState = record old { home = c.ready.new.self } in
    let keeps = keeps-ready old c.ready.new.self _ _ same in
    let new : Contents = c.apply_next.new.self in
    let a = applied in
    let t = run_counts-applied h new c.args.turn.now (run_counts-keeps old h c.args.turn.now keeps c.requires.in_run.run_counts) a in record {
      same_gates = c.carry_out.ensures.in_acts.same_gates;
      running = c.carry_out.ensures.in_acts.running;
      backlog = c.carry_out.ensures.in_acts.backlog;
      carried_out = c.carry_out.ensures.carried_out;
      run_counts = run_counts-keeps _ _ _ c.carry_out.ensures.advances.same t;
    }

pub returns-clause-advances : goal.returns-clause-advances
returns-clause-advances g c =
    let same = subst (λ (x : Contents). c.ready.new.self
    ≡ record x { cell = record x.cell { is_ready = c.ready.new.self.cell.is_ready }; room = c.ready.new.self.room }) c.deref_mut.ensures.value
    c.ready.ensures.same in
    let applied = subst (λ (x : Contents). AppliesNext x c.apply_next.new.self) c.deref_mut-2.ensures.value c.apply_next.ensures.applied in
    let old = run_state c.args.claim.now in
    let h : RunState = record old { home = c.ready.new.self } in
    let keeps = keeps-ready old c.ready.new.self _ _ same in
    let new : Contents = c.apply_next.new.self in
    let a = applied in
    let applied_hold : RunState = record h { home = new } in
    let take : applied_hold.home.take ≡ old.home.take = ap (λ (x : Contents). x.take) applied.same ∙ ap (λ (x : Contents). x.take) same in
    let until = same-run-then old h applied_hold keeps.same (same-applied h new c.args.turn.now
    (run_counts-keeps old h c.args.turn.now keeps c.requires.in_run.run_counts) a) in
    record {
      same = same-keeps old applied_hold _ until c.carry_out.ensures.advances.same;
      cleared = ok-so c.carry_out.result
          (cleared-then old applied_hold (run_state c.carry_out.new.claim) (takes-same _ _ take)
          (cleared-open old applied_hold c.requires.not_closed)) c.carry_out.ensures.cleared;
      caller_advances = c.carry_out.ensures.advances.caller_advances;
      sends = c.carry_out.ensures.advances.sends;
      entries = ready-then old c.ready.new.self _ _ same (run_state c.carry_out.new.claim)
          (entries-applied h applied_hold (run_state c.carry_out.new.claim) refl c.requires.not_closed refl applied c.carry_out.ensures.due
          c.carry_out.ensures.advances.same.journal refl);
    }

pub returns-clause-stops : goal.returns-clause-stops
returns-clause-stops g c =
    stops-carried c.carry_out.result c.carry_out.new.claim c.carry_out.ensures.refused c.carry_out.ensures.ended

pub returns-clause-applied : goal.returns-clause-applied
returns-clause-applied g c = ok-so c.carry_out.result (λ cleared. refl) c.carry_out.ensures.cleared

pub returns-in_err-ready-clause-applied : goal.returns-in_err-ready-clause-applied
returns-in_err-ready-clause-applied g c = ok-passed _ c.from_residual.result c.in_err-ready.field-0.0 c.from_residual.ensures.1
