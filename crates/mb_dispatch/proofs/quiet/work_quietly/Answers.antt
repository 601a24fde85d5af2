use Rattle.std.proofs.Common.{◌≡◌, arith, List, [], ◌∷◌, ◌++◌, ◌∙◌, ap, refl, subst, sym, inl, inr}
use Rattle.std.specs.Prelude.{IfErr}
use Rattle.std.proofs.lemmas.Result.{IfOk-from_err}
use Rattle.std.proofs.lemmas.Grind.{common_steps}
use Rattle.mb_gate.specs.Accessors.{actors_of, pass_view, pass_id}
use Rattle.mb_gate.specs.Rule.{IsPart}
use Rattle.std.specs.Global.{Box}
use Rattle.std.specs.Prelude.{Option}
use Rattle.mb_gate.specs.Untouched.{Origin, origin_of}
use Rattle.mb_home.specs.Contents.{Contents}
use Rattle.mb_home.specs.Fresh.{IsFreshClaim}
use Rattle.mb_dead_letters.specs.KeptListView.{KeptListView}
use Rattle.mb_mailbox.specs.declared.turn.Turn.{Turn}
use Rattle.mb_system.specs.Members.{handle_caller}
use Rattle.mb_system.proofs.Obligations.{obligations-left, obligations-same, owes-nothing, discharged-still}
use Rattle.mb_system.proofs.Saw.{saw-then}
use Rattle.mb_system.specs.OnlyLooks.{OnlyLooks}
use Rattle.mb_system.specs.RunErrors.{of_ready}
use Rattle.mb_dispatch.specs.Claims.{RunsEachClaim}
use Rattle.mb_dispatch.specs.Faults.{BreaksQuietRun, BreaksWork}
use Rattle.mb_dispatch.specs.Found.{FoundPoolEmpty}
use Rattle.mb_dispatch.proofs.Breaking.{breaks-after, breaks-mailbox, breaks-retry}
use Rattle.mb_dispatch.proofs.Claims.{none-then, claims-registered, claims-registered-all, tried-ran}
use Rattle.mb_system.proofs.RunErrors.{on-error}
use Rattle.mb_dispatch.specs.Runs.{MadeMoreRuns, RanMailbox}
use Rattle.mb_dispatch.proofs.Runs.{more-looks, more-none, more-runs, ran-mailbox, runs-looks}
use Rattle.mb_dispatch.proofs.quiet.work_quietly.Goals as goal

items-of : {old new : KeptListView Turn} → new ≡ old → new.items ≡ old.items
items-of = ap (λ (l : KeptListView Turn). l.items)

pub loop-init : goal.loop-init
loop-init g c =
    let did = c.register_all.ensures in (
      did.same_handle.same_gates,
      did.same_handle.number,
      did.same_handle.log_kept,
      did.discharged,
      more-none g.K.Behaviours.gives (origin_of c.args.system.now.gates) c.args.system.now.throughput (pass_view c.args.handle.now.registrar.pass)
          (pass_view c.register_all.new.self.registrar.pass) c.args.turns.list.items did.looks_for_work.looks,
      claims-registered-all c.args.handle.now c.register_all.new.self (actors_of c.args.system.now.gates) did.registered did.log,
      refl,
    )

pub loop-preserved-in-Some-take : goal.loop-preserved-in-Some-take
loop-preserved-in-Some-take g c =
    let gives = g.K.Behaviours.gives in let system = c.args.system.now in let first = handle_caller c.args.handle.now.registrar in
    let turn = c.in_ok-run_mailbox-in-Some-take.field-0 in let did = c.run_mailbox.ensures in let same = c.take.ensures.same in let actors = actors_of c.args.system.now.gates in
    let old = handle_caller c.loop.handle.registrar in let between = handle_caller c.take.new.self.registrar in let new = handle_caller c.run_mailbox.new.registrar in (
      did.same_gates,
      same.3 ∙ c.loop.invariant.1,
      saw-then _ _ _ c.loop.invariant.2
          (subst (λ p. IsPart (pass_view p).log (pass_view c.run_mailbox.new.registrar.pass).log) same.0 did.caller_advances.log),
      discharged-still actors between new
          (discharged-still actors old between c.loop.invariant.3 (obligations-same actors old between (ap pass_view same.0) same.1))
          (obligations-left actors between new did.caller_advances),
      subst (λ turns. MadeMoreRuns gives (origin_of system.gates) system.throughput first.view c.args.turns.list.items turns new.view)
          (sym {A = List Turn} (◌∙◌ {A = List Turn} c.push.ensures.items (ap {A = List Turn} {B = List Turn} (λ turns. turns ++ turn ∷ []) (items-of c.reserve.ensures.same))))
          (more-runs gives (origin_of system.gates) system.throughput first.view old.view new.view c.args.turns.list.items c.loop.list.items turn c.loop.invariant.4
          (subst (λ p. RanMailbox gives (origin_of system.gates) system.throughput (pass_view p) new.view turn) same.0
          (ran-mailbox gives (origin_of system.gates) system.throughput between.view new.view c.in-Some-take.claim turn
          (subst (λ (o : Option (Origin (Box Contents))). IsFreshClaim gives o c.in-Some-take.claim) c.loop.invariant.0.1 c.in-Some-take.ensures.untouched)
          c.in_ok-run_mailbox-in-Some-take.ensures.answer.ran))),
      tried-ran c.in-Some-take.claim c.args.handle.now c.loop.handle c.take.new.self (record c.take.new.self { registrar = c.run_mailbox.new.registrar }) c.take.result c.in-Some-take.is c.loop.invariant.5 same.0
          c.take.ensures.account c.take.ensures.log did.back.claims refl,
      c.push.ensures.same ∙ ap (λ (l : KeptListView Turn). l.retention) c.reserve.ensures.same ∙ c.loop.invariant.6,
    )

pub loop-preserved : goal.loop-preserved
loop-preserved g c =
    let gives = g.K.Behaviours.gives in let system = c.args.system.now in let first = handle_caller c.args.handle.now.registrar in
    let did = c.retry_refused.ensures in let same = c.take.ensures.same in let actors = actors_of c.args.system.now.gates in
    let old = handle_caller c.loop.handle.registrar in let between = handle_caller c.take.new.self.registrar in let new = handle_caller c.retry_refused.new.self.registrar in (
      did.same_handle.same_gates,
      did.same_handle.number ∙ same.3 ∙ c.loop.invariant.1,
      saw-then _ _ _ c.loop.invariant.2 (subst (λ p. IsPart (pass_view p).log (pass_view c.retry_refused.new.self.registrar.pass).log) same.0 did.same_handle.log_kept),
      discharged-still actors between new
          (discharged-still actors old between c.loop.invariant.3 (obligations-same actors old between (ap pass_view same.0) same.1))
          did.forgets_nothing.obligations,
      subst (λ turns. MadeMoreRuns gives (origin_of system.gates) system.throughput first.view c.args.turns.list.items turns new.view) (sym {A = List Turn} (items-of c.reserve.ensures.same))
          (more-looks gives (origin_of system.gates) system.throughput first.view old.view new.view c.args.turns.list.items c.loop.list.items c.loop.invariant.4
          (subst (λ p. OnlyLooks (pass_view p) new.view) same.0 did.looks_for_work.looks)),
      none-then c.args.handle.now c.loop.handle c.take.new.self c.retry_refused.new.self c.in-None-take.ensures.none.0 c.loop.invariant.5
          (claims-registered c.take.new.self c.retry_refused.new.self did.forgets_nothing.handed did.log),
      ap (λ (l : KeptListView Turn). l.retention) c.reserve.ensures.same ∙ c.loop.invariant.6,
    )

pub returns-in_err-run_mailbox-in-Some-take-clause-alone : goal.returns-in_err-run_mailbox-in-Some-take-clause-alone
returns-in_err-run_mailbox-in-Some-take-clause-alone g c = record {
  same_handle = record {
    same_gates = c.run_mailbox.ensures.same_gates;
    number =
        c.take.ensures.same.3 ∙ c.loop.invariant.1;
    log_kept =
        saw-then _ _ _ c.loop.invariant.2
        (subst (λ p. IsPart (pass_view p).log (pass_view c.run_mailbox.new.registrar.pass).log) c.take.ensures.same.0 c.run_mailbox.ensures.caller_advances.log);
  };
  obligations =
      let same = c.take.ensures.same in let actors = actors_of c.args.system.now.gates in
      let old = handle_caller c.loop.handle.registrar in let between = handle_caller c.take.new.self.registrar in let new = handle_caller c.run_mailbox.new.registrar in
      discharged-still actors between new
      (discharged-still actors old between c.loop.invariant.3 (obligations-same actors old between (ap pass_view same.0) same.1))
      (obligations-left actors between new c.run_mailbox.ensures.caller_advances);
  claims =
      let did = c.run_mailbox.ensures in let took = c.take.ensures in
      tried-ran c.in-Some-take.claim c.args.handle.now c.loop.handle c.take.new.self (record c.take.new.self { registrar = c.run_mailbox.new.registrar }) c.take.result c.in-Some-take.is c.loop.invariant.5
      took.same.0 took.account took.log did.back.claims refl;
}

pub returns-in_err-retry_refused-in-None-take-clause-alone : goal.returns-in_err-retry_refused-in-None-take-clause-alone
returns-in_err-retry_refused-in-None-take-clause-alone g c = record {
  same_handle = record {
    same_gates = c.retry_refused.ensures.same_handle.same_gates;
    number = c.retry_refused.ensures.same_handle.number ∙ c.take.ensures.same.3 ∙ c.loop.invariant.1;
    log_kept =
        saw-then _ _ _ c.loop.invariant.2
        (subst (λ p. IsPart (pass_view p).log (pass_view c.retry_refused.new.self.registrar.pass).log) c.take.ensures.same.0 c.retry_refused.ensures.same_handle.log_kept);
  };
  obligations =
      let same = c.take.ensures.same in let actors = actors_of c.args.system.now.gates in
      let old = handle_caller c.loop.handle.registrar in let between = handle_caller c.take.new.self.registrar in let new = handle_caller c.retry_refused.new.self.registrar in
      discharged-still actors between new
      (discharged-still actors old between c.loop.invariant.3 (obligations-same actors old between (ap pass_view same.0) same.1)) c.retry_refused.ensures.forgets_nothing.obligations;
  claims =
      let did = c.retry_refused.ensures in
      none-then c.args.handle.now c.loop.handle c.take.new.self c.retry_refused.new.self c.in-None-take.ensures.none.0 c.loop.invariant.5
      (claims-registered c.take.new.self c.retry_refused.new.self did.forgets_nothing.handed did.log);
}

pub returns-then-is_empty-clause-alone : goal.returns-then-is_empty-clause-alone
returns-then-is_empty-clause-alone g c = record {
  same_handle = record {
    same_gates =
        let same = c.take.ensures.same in let ours = c.loop.invariant.0 in (ap pass_id same.0 ∙ ours.0, same.2 ∙ ours.1, ours.2);
    number = c.take.ensures.same.3 ∙ c.loop.invariant.1;
    log_kept =
        subst (λ p. IsPart (pass_view c.args.handle.now.registrar.pass).log (pass_view p).log) (sym c.take.ensures.same.0) c.loop.invariant.2;
  };
  obligations =
      let same = c.take.ensures.same in let actors = actors_of c.args.system.now.gates in
      let old = handle_caller c.loop.handle.registrar in let new = handle_caller c.take.new.self.registrar in
      discharged-still actors old new c.loop.invariant.3 (obligations-same actors old new (ap pass_view same.0) same.1);
  claims =
      subst (RunsEachClaim c.args.handle.now) (sym c.in-None-take.ensures.none.0) c.loop.invariant.5;
}

pub returns-then-is_empty-clause-runs : goal.returns-then-is_empty-clause-runs
returns-then-is_empty-clause-runs g c =
    let gives = g.K.Behaviours.gives in let system = c.args.system.now in let first = pass_view c.args.handle.now.registrar.pass in
    let earlier = c.args.turns.list.items in
    subst (λ turns. MadeMoreRuns gives (origin_of system.gates) system.throughput first earlier turns (pass_view c.take.new.self.registrar.pass)) (sym {A = List Turn} (items-of c.reserve.ensures.same))
    (subst (λ p. MadeMoreRuns gives (origin_of system.gates) system.throughput first earlier c.loop.list.items (pass_view p)) (sym c.take.ensures.same.0) c.loop.invariant.4)

pub returns-then-is_err-clause-runs : goal.returns-then-is_err-clause-runs
returns-then-is_err-clause-runs g c = tt

pub returns-in_err-run_mailbox-in-Some-take-clause-runs : goal.returns-in_err-run_mailbox-in-Some-take-clause-runs
returns-in_err-run_mailbox-in-Some-take-clause-runs g c = IfOk-from_err c.from_residual.result _ c.from_residual.ensures.0

pub returns-in_err-retry_refused-in-None-take-clause-runs : goal.returns-in_err-retry_refused-in-None-take-clause-runs
returns-in_err-retry_refused-in-None-take-clause-runs g c =
    let left = c.from_residual-in_err-retry_refused-in-None-take in IfOk-from_err left.result _ left.ensures.0

pub run_mailbox-requires-clause-same_gates : goal.run_mailbox-requires-clause-same_gates
run_mailbox-requires-clause-same_gates g c =
    let same = c.take.ensures.same in let ours = c.loop.invariant.0 in (ap pass_id same.0 ∙ ours.0, same.2 ∙ ours.1, ours.2)

pub run_mailbox-requires-clause-same_count : goal.run_mailbox-requires-clause-same_count
run_mailbox-requires-clause-same_count g c = c.args.system.now.directory

pub run_mailbox-requires-clause-untouched : goal.run_mailbox-requires-clause-untouched
run_mailbox-requires-clause-untouched g c =
    subst (λ (o : Option (Origin (Box Contents))). IsFreshClaim g.K.Behaviours.gives o c.in-Some-take.claim) c.loop.invariant.0.1 c.in-Some-take.ensures.untouched

pub returns-then-is_err-clause-alone : goal.returns-then-is_err-clause-alone
returns-then-is_err-clause-alone g c = record {
  same_handle = record {
    same_gates = c.loop.invariant.0;
    number = c.loop.invariant.1;
    log_kept = c.loop.invariant.2;
  };
  obligations =
      c.loop.invariant.3;
  claims =
      c.loop.invariant.5;
}

pub returns-then-is_err-clause-settled : goal.returns-then-is_err-clause-settled
returns-then-is_err-clause-settled g c = tt

pub returns-then-is_err-clause-fault : goal.returns-then-is_err-clause-fault
returns-then-is_err-clause-fault g c = inl (refl, record { turns = c.loop.invariant.4.later; made = c.loop.invariant.4.made })

pub returns-in_err-run_mailbox-in-Some-take-clause-fault : goal.returns-in_err-run_mailbox-in-Some-take-clause-fault
returns-in_err-run_mailbox-in-Some-take-clause-fault g c =
    let gives = g.K.Behaviours.gives in let system = c.args.system.now in let new = record c.take.new.self { registrar = c.run_mailbox.new.registrar } in
    let start = pass_view c.args.handle.now.registrar.pass in let old = pass_view c.loop.handle.registrar.pass in
    let failed = c.in_err-run_mailbox-in-Some-take in let error = of_ready failed.field-0.0 in
    let fresh = subst (λ (o : Option (Origin (Box Contents))). IsFreshClaim gives o c.in-Some-take.claim) c.loop.invariant.0.1 c.in-Some-take.ensures.untouched in
    on-error c.from_residual.result (BreaksQuietRun gives system start new) error c.from_residual.ensures.1
    (inr (breaks-after gives system start old new error (record { turns = c.loop.invariant.4.later; made = c.loop.invariant.4.made })
    (subst (λ p. BreaksWork gives system (pass_view p) new error) c.take.ensures.same.0
    (breaks-mailbox gives system (pass_view c.take.new.self.registrar.pass) new c.in-Some-take.claim fresh c.run_mailbox.result failed.field-0.0 failed.was
    c.run_mailbox.ensures.answer.ran c.run_mailbox.ensures.answer.out_of_memory))))

pub returns-in_err-retry_refused-in-None-take-clause-fault : goal.returns-in_err-retry_refused-in-None-take-clause-fault
returns-in_err-retry_refused-in-None-take-clause-fault g c =
    let gives = g.K.Behaviours.gives in let system = c.args.system.now in let handle = c.retry_refused.new.self in
    let retried = c.retry_refused.ensures in let left = c.from_residual-in_err-retry_refused-in-None-take in
    let start = pass_view c.args.handle.now.registrar.pass in let old = pass_view c.loop.handle.registrar.pass in let new = pass_view handle.registrar.pass in
    let made = runs-looks gives (origin_of system.gates) system.throughput start old new c.loop.invariant.4.later c.loop.invariant.4.made
    (subst (λ p. OnlyLooks (pass_view p) new) c.take.ensures.same.0 retried.looks_for_work.looks) in
    on-error left.result (BreaksQuietRun gives system start handle) _ left.ensures.1
    (inr (subst (λ r. IfErr r (BreaksWork gives system start handle)) c.in_err-retry_refused-in-None-take.was
    (breaks-retry gives system start handle (handle_caller c.take.new.self.registrar).account _ c.retry_refused.result retried.stops retried.refused
    (record { turns = c.loop.invariant.4.later; made = made }))))

pub returns-then-is_empty-clause-fault : goal.returns-then-is_empty-clause-fault
returns-then-is_empty-clause-fault g c = tt

pub returns-in_err-run_mailbox-in-Some-take-clause-settled : goal.returns-in_err-run_mailbox-in-Some-take-clause-settled
returns-in_err-run_mailbox-in-Some-take-clause-settled g c = IfOk-from_err c.from_residual.result _ c.from_residual.ensures.0

pub returns-then-is_empty-clause-settled : goal.returns-then-is_empty-clause-settled
returns-then-is_empty-clause-settled g c = record {
  discharged = c.is_empty.ensures.nobody c.if-is_empty.true;
  settled =
      let same = c.take.ensures.same in let actors = actors_of c.args.system.now.gates in
      let old = handle_caller c.loop.handle.registrar in let new = handle_caller c.take.new.self.registrar in
      owes-nothing actors new (discharged-still actors old new c.loop.invariant.3 (obligations-same actors old new (ap pass_view same.0) same.1))
      (λ id lt. c.is_empty.ensures.nobody c.if-is_empty.true id);
  empty =
      let none = c.in-None-take.ensures.none in subst (FoundPoolEmpty g.K.Behaviours.gives) (sym none.0) (none.1, none.2);
}

pub returns-in_err-retry_refused-in-None-take-clause-settled : goal.returns-in_err-retry_refused-in-None-take-clause-settled
returns-in_err-retry_refused-in-None-take-clause-settled g c =
    let left = c.from_residual-in_err-retry_refused-in-None-take in IfOk-from_err left.result _ left.ensures.0

pub retry_refused-requires : goal.retry_refused-requires
retry_refused-requires g c =
    let same = c.take.ensures.same in let ours = c.loop.invariant.0 in
    record { same_gates = (ap pass_id same.0 ∙ ours.0, same.2 ∙ ours.1, ours.2) }

pub push-requires : goal.push-requires
push-requires g c =
    let room = c.reserve.ensures.room in let went = c.if-is_err.false in let is = c.is_err.ensures in grind (arith, common_steps)

pub returns-then-is_err-clause-kept : goal.returns-then-is_err-clause-kept
returns-then-is_err-clause-kept g c = tt

pub returns-in_err-run_mailbox-in-Some-take-clause-kept : goal.returns-in_err-run_mailbox-in-Some-take-clause-kept
returns-in_err-run_mailbox-in-Some-take-clause-kept g c = IfOk-from_err c.from_residual.result _ c.from_residual.ensures.0

pub returns-in_err-retry_refused-in-None-take-clause-kept : goal.returns-in_err-retry_refused-in-None-take-clause-kept
returns-in_err-retry_refused-in-None-take-clause-kept g c =
    let left = c.from_residual-in_err-retry_refused-in-None-take in IfOk-from_err left.result _ left.ensures.0

pub returns-then-is_empty-clause-kept : goal.returns-then-is_empty-clause-kept
returns-then-is_empty-clause-kept g c = ap (λ (l : KeptListView Turn). l.retention) c.reserve.ensures.same ∙ c.loop.invariant.6
