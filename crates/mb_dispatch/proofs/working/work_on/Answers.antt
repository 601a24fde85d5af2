use Rattle.std.proofs.Common.{◌≡◌, ◌∙◌, ℕ, [], ap, inl, refl, subst, sym}
use Rattle.std.proofs.lemmas.Result.{IfOk-from_err}
use Rattle.std.specs.Global.{Box}
use Rattle.std.specs.Prelude.{IfNone, IfSome, None, Option, Some, option_to_list}
use Rattle.mb_actor.specs.Behaviour.{Moment, Reply}
use Rattle.mb_gate.specs.Accessors.{actors_of, pass_id, pass_view}
use Rattle.mb_gate.specs.Rule.{IsPart}
use Rattle.mb_gate.specs.Untouched.{Origin, origin_of}
use Rattle.mb_gate.specs.declared.claim.Claim.{Claim}
use Rattle.mb_home.specs.Contents.{Contents}
use Rattle.mb_home.specs.Fresh.{IsFreshClaim}
use Rattle.mb_system.specs.Members.{IsHandleOf, handle_caller}
use Rattle.mb_system.specs.Obligations.{KeepsObligations}
use Rattle.mb_system.specs.RunErrors.{of_ready}
use Rattle.mb_system.specs.declared.handle.WorkerHandle.{WorkerHandle}
use Rattle.mb_system.specs.declared.system.System.{System}
use Rattle.mb_system.proofs.Obligations.{obligations-left, obligations-same, obligations-then}
use Rattle.mb_system.proofs.Saw.{saw-same, saw-then}
use Rattle.mb_system.proofs.RunErrors.{on-error}
use Rattle.mb_dispatch.specs.Claims.{RunsEachClaim, RunsEachClaimBut}
use Rattle.mb_dispatch.specs.Faults.{BreaksWork}
use Rattle.mb_dispatch.specs.Runs.{OnlyRuns}
use Rattle.mb_dispatch.proofs.Breaking.{breaks-after, breaks-mailbox, runs-or-breaks}
use Rattle.mb_dispatch.proofs.Claims.{claims-none, claims-then, next-ran, tried-ran}
use Rattle.mb_dispatch.proofs.Runs.{no-run, of-looks, one-run, ran-mailbox, runs-then}
use Rattle.mb_dispatch.proofs.working.work_on.Goals as goal

-- what was said of the claim that there is, or where there is none
fresh : (gives : ℕ → Moment → Reply → Type 0) (origin : Origin (Box Contents)) (next : Option (Claim (Box Contents))) (claim : Claim (Box Contents))
    → next ≡ Some claim → IfSome next (IsFreshClaim gives (Some origin)) → IsFreshClaim gives (Some origin) claim
fresh gives origin next claim is told = subst (λ (o : Option (Claim (Box Contents))). IfSome o (IsFreshClaim gives (Some origin))) is told

tried-fresh : (gives : ℕ → Moment → Reply → Type 0) (origin : Origin (Box Contents)) (at : Option (Origin (Box Contents))) (claim : Claim (Box Contents))
    → at ≡ Some origin → IsFreshClaim gives at claim → IsFreshClaim gives (Some origin) claim
tried-fresh gives origin at claim is told = subst (λ o. IsFreshClaim gives o claim) is told

-- what the loop keeps of a handle, which is kept where no claim was taken, since the handle is as it was
module _ {A K : Type 0} (gives : ℕ → Moment → Reply → Type 0) (system : System A K) (first : WorkerHandle A K) where
  abbrev IsKept : WorkerHandle A K → Type 0
  IsKept handle =
      IsHandleOf system.gates handle.registrar × (handle.number ≡ first.number) × IsPart (pass_view first.registrar.pass).log (pass_view handle.registrar.pass).log
      × KeepsObligations (actors_of system.gates) (handle_caller first.registrar) (handle_caller handle.registrar)
      × OnlyRuns gives (origin_of system.gates) system.throughput (pass_view first.registrar.pass) (pass_view handle.registrar.pass)
      × RunsEachClaim first handle

  kept-still : (at tried : WorkerHandle A K) → tried ≡ at → IsKept at → IsKept tried
  kept-still at tried still kept = subst IsKept (sym still) kept

none-left : (P : Type 0) (next : Option (Claim (Box Contents))) → next ≡ None → IfNone next P → P
none-left P next is told = subst (λ (o : Option (Claim (Box Contents))). IfNone o P) is told

pub loop-init : goal.loop-init
loop-init g c =
    let caller = handle_caller c.args.handle.now.registrar in (
      c.requires.same_gates,
      refl,
      saw-same _,
      obligations-same (actors_of c.args.system.now.gates) caller caller refl refl,
      no-run g.K.Behaviours.gives (origin_of c.args.system.now.gates) c.args.system.now.throughput caller.view,
      claims-none c.args.handle.now,
    )

pub run_mailbox-requires-clause-same_gates : goal.run_mailbox-requires-clause-same_gates
run_mailbox-requires-clause-same_gates g c =
    let same = c.try_take.ensures.same in let ours = c.loop.invariant.0 in (ap pass_id same.0 ∙ ours.0, same.2 ∙ ours.1, ours.2)

pub run_mailbox-requires-clause-same_count : goal.run_mailbox-requires-clause-same_count
run_mailbox-requires-clause-same_count g c = c.args.system.now.directory

pub run_mailbox-requires-clause-untouched : goal.run_mailbox-requires-clause-untouched
run_mailbox-requires-clause-untouched g c =
    tried-fresh g.K.Behaviours.gives (origin_of c.args.system.now.gates) _ c.in-Some-try_take.claim c.loop.invariant.0.1 c.in-Some-try_take.ensures.untouched

pub loop-preserved-in-Some-try_take : goal.loop-preserved-in-Some-try_take
loop-preserved-in-Some-try_take g c =
    let at = c.loop.invariant in let same = c.try_take.ensures.same in let did = c.run_mailbox.ensures in let actors = actors_of c.args.system.now.gates in
    let gives = g.K.Behaviours.gives in let origin = origin_of c.args.system.now.gates in let throughput = c.args.system.now.throughput in
    let first = handle_caller c.args.handle.now.registrar in let old = handle_caller c.loop.handle.registrar in
    let between = handle_caller c.try_take.new.self.registrar in let new = handle_caller c.run_mailbox.new.registrar in
    let turn = c.in_ok-run_mailbox.field-0 in (
      did.same_gates,
      same.3 ∙ at.1,
      saw-then _ _ _ (subst (λ p. IsPart first.view.log (pass_view p).log) (sym same.0) at.2) did.caller_advances.log,
      obligations-then actors first between new (obligations-then actors first old between at.3 (obligations-same actors old between (ap pass_view same.0) same.1))
          (obligations-left actors between new did.caller_advances),
      runs-then gives origin throughput first.view between.view new.view
          (subst (λ p. OnlyRuns gives origin throughput first.view (pass_view p)) (sym same.0) at.4)
          (one-run gives origin throughput between.view new.view turn
          (ran-mailbox gives origin throughput between.view new.view c.in-Some-try_take.claim turn
          (tried-fresh gives origin _ c.in-Some-try_take.claim at.0.1 c.in-Some-try_take.ensures.untouched) c.in_ok-run_mailbox.ensures.answer.ran)),
      tried-ran c.in-Some-try_take.claim c.args.handle.now c.loop.handle c.try_take.new.self (record c.try_take.new.self { registrar = c.run_mailbox.new.registrar }) c.try_take.result c.in-Some-try_take.is at.5 same.0
          c.try_take.ensures.account c.try_take.ensures.log did.back.claims refl,
    )

pub returns-in_err-run_mailbox-clause-done : goal.returns-in_err-run_mailbox-clause-done
returns-in_err-run_mailbox-clause-done g c = IfOk-from_err c.from_residual.result _ c.from_residual.ensures.0

pub returns-in_err-run_mailbox-clause-fault : goal.returns-in_err-run_mailbox-clause-fault
returns-in_err-run_mailbox-clause-fault g c =
    let gives = g.K.Behaviours.gives in let system = c.args.system.now in let origin = origin_of system.gates in let throughput = system.throughput in
    let start = pass_view c.args.handle.now.registrar.pass in
    let between = pass_view c.try_take.new.self.registrar.pass in let new = record c.try_take.new.self { registrar = c.run_mailbox.new.registrar } in let error = c.in_err-run_mailbox.field-0.0 in
    on-error c.from_residual.result (BreaksWork gives system start new) (of_ready error) c.from_residual.ensures.1
    (breaks-after gives system start between new (of_ready error)
    (subst (λ p. OnlyRuns gives origin throughput start (pass_view p)) (sym c.try_take.ensures.same.0) c.loop.invariant.4)
    (breaks-mailbox gives system between new c.in-Some-try_take.claim
    (tried-fresh gives origin _ c.in-Some-try_take.claim c.loop.invariant.0.1 c.in-Some-try_take.ensures.untouched) c.run_mailbox.result error
    c.in_err-run_mailbox.was c.run_mailbox.ensures.answer.ran c.run_mailbox.ensures.answer.out_of_memory))

pub loop-preserved : goal.loop-preserved
loop-preserved g c =
    let at = kept-still g.K.Behaviours.gives c.args.system.now c.args.handle.now c.loop.handle c.try_take.new.self c.in_default.ensures.none.0 c.loop.invariant in let next = c.next_claim.ensures in let did = c.run_mailbox-in-loop.ensures in let actors = actors_of c.args.system.now.gates in
    let gives = g.K.Behaviours.gives in let origin = origin_of c.args.system.now.gates in let throughput = c.args.system.now.throughput in
    let first = handle_caller c.args.handle.now.registrar in let old = handle_caller c.try_take.new.self.registrar in
    let between = handle_caller c.next_claim.new.handle.registrar in let new = handle_caller c.run_mailbox-in-loop.new.registrar in
    let turn = c.in_ok-run_mailbox-2.field-0 in (
      did.same_gates,
      next.same_handle.number ∙ at.1,
      saw-then _ _ _ (saw-then _ _ _ at.2 next.same_handle.log_kept) did.caller_advances.log,
      obligations-then actors first between new (obligations-then actors first old between at.3 next.obligations) (obligations-left actors between new did.caller_advances),
      runs-then gives origin throughput first.view between.view new.view
          (runs-then gives origin throughput first.view old.view between.view at.4 (of-looks gives origin throughput old.view between.view next.looks))
          (one-run gives origin throughput between.view new.view turn
          (ran-mailbox gives origin throughput between.view new.view c.in-Some-2.claim turn (fresh g.K.Behaviours.gives (origin_of c.args.system.now.gates) _ _ c.in-Some-2.is c.in_ok-claim.ensures.untouched) c.in_ok-run_mailbox-2.ensures.answer.ran)),
      next-ran c.in-Some-2.claim c.args.handle.now c.try_take.new.self c.next_claim.new.handle (record c.next_claim.new.handle { registrar = c.run_mailbox-in-loop.new.registrar }) c.in_ok-claim.field-0 c.in-Some-2.is at.5
          c.in_ok-claim.ensures.claims did.back.claims refl,
    )

pub run_mailbox-requires-in-loop-clause-same_gates : goal.run_mailbox-requires-in-loop-clause-same_gates
run_mailbox-requires-in-loop-clause-same_gates g c = c.next_claim.ensures.same_handle.same_gates

pub run_mailbox-requires-in-loop-clause-same_count : goal.run_mailbox-requires-in-loop-clause-same_count
run_mailbox-requires-in-loop-clause-same_count g c = c.args.system.now.directory

pub run_mailbox-requires-in-loop-clause-untouched : goal.run_mailbox-requires-in-loop-clause-untouched
run_mailbox-requires-in-loop-clause-untouched g c =
    fresh g.K.Behaviours.gives (origin_of c.args.system.now.gates) _ _ c.in-Some-2.is c.in_ok-claim.ensures.untouched

pub returns-in_default-2-clause-done : goal.returns-in_default-2-clause-done
returns-in_default-2-clause-done g c = (
  (none-left _ _ c.in_default-2.is c.in_ok-claim.ensures.none).0,
  (none-left _ _ c.in_default-2.is c.in_ok-claim.ensures.none).1,
  let kept = kept-still g.K.Behaviours.gives c.args.system.now c.args.handle.now c.loop.handle c.try_take.new.self c.in_default.ensures.none.0 c.loop.invariant in
      let gives = g.K.Behaviours.gives in let system = c.args.system.now in let origin = origin_of system.gates in let throughput = system.throughput in
      let start = pass_view c.args.handle.now.registrar.pass in let old = pass_view c.try_take.new.self.registrar.pass in
      let between = pass_view c.next_claim.new.handle.registrar.pass in
      runs-then gives origin throughput start old between kept.4 (of-looks gives origin throughput old between c.next_claim.ensures.looks),
)

pub returns-in_default-2-clause-fault : goal.returns-in_default-2-clause-fault
returns-in_default-2-clause-fault g c = tt

pub returns-in_err-claim-clause-done : goal.returns-in_err-claim-clause-done
returns-in_err-claim-clause-done g c = IfOk-from_err c.from_residual-in_err-claim.result _ c.from_residual-in_err-claim.ensures.0

pub returns-in_err-claim-clause-fault : goal.returns-in_err-claim-clause-fault
returns-in_err-claim-clause-fault g c =
    let kept = kept-still g.K.Behaviours.gives c.args.system.now c.args.handle.now c.loop.handle c.try_take.new.self c.in_default.ensures.none.0 c.loop.invariant in
    let gives = g.K.Behaviours.gives in let system = c.args.system.now in let origin = origin_of system.gates in let throughput = system.throughput in
    let start = pass_view c.args.handle.now.registrar.pass in let old = pass_view c.try_take.new.self.registrar.pass in
    let between = pass_view c.next_claim.new.handle.registrar.pass in let new = c.next_claim.new.handle in
    on-error c.from_residual-in_err-claim.result (BreaksWork gives system start new) _ c.from_residual-in_err-claim.ensures.1
    (breaks-after gives system start old new _ kept.4 c.in_err-claim.ensures.fault)

pub returns-in_err-run_mailbox-2-clause-done : goal.returns-in_err-run_mailbox-2-clause-done
returns-in_err-run_mailbox-2-clause-done g c =
    IfOk-from_err c.from_residual-in_err-run_mailbox-2.result _ c.from_residual-in_err-run_mailbox-2.ensures.0

pub returns-in_err-run_mailbox-2-clause-fault : goal.returns-in_err-run_mailbox-2-clause-fault
returns-in_err-run_mailbox-2-clause-fault g c =
    let kept = kept-still g.K.Behaviours.gives c.args.system.now c.args.handle.now c.loop.handle c.try_take.new.self c.in_default.ensures.none.0 c.loop.invariant in
    let gives = g.K.Behaviours.gives in let system = c.args.system.now in let origin = origin_of system.gates in let throughput = system.throughput in
    let start = pass_view c.args.handle.now.registrar.pass in let old = pass_view c.try_take.new.self.registrar.pass in
    let between = pass_view c.next_claim.new.handle.registrar.pass in let new = record c.next_claim.new.handle { registrar = c.run_mailbox-in-loop.new.registrar } in let error = c.in_err-run_mailbox-2.field-0.0 in
    let passed = c.from_residual-in_err-run_mailbox-2 in
    on-error passed.result (BreaksWork gives system start new) (of_ready error) passed.ensures.1
    (breaks-after gives system start between new (of_ready error)
    (runs-then gives origin throughput start old between kept.4 (of-looks gives origin throughput old between c.next_claim.ensures.looks))
    (breaks-mailbox gives system between new c.in-Some-2.claim (fresh g.K.Behaviours.gives (origin_of c.args.system.now.gates) _ _ c.in-Some-2.is c.in_ok-claim.ensures.untouched) c.run_mailbox-in-loop.result error c.in_err-run_mailbox-2.was
    c.run_mailbox-in-loop.ensures.answer.ran c.run_mailbox-in-loop.ensures.answer.out_of_memory))

pub returns-in_err-run_mailbox-clause-keeps : goal.returns-in_err-run_mailbox-clause-keeps
returns-in_err-run_mailbox-clause-keeps g c = record {
  of_system = c.run_mailbox.ensures.same_gates;
  number = c.try_take.ensures.same.3 ∙ c.loop.invariant.1;
  log_kept =
      saw-then _ _ _ (subst (λ p. IsPart (pass_view c.args.handle.now.registrar.pass).log (pass_view p).log) (sym c.try_take.ensures.same.0) c.loop.invariant.2)
      c.run_mailbox.ensures.caller_advances.log;
  obligations =
      let actors = actors_of c.args.system.now.gates in let same = c.try_take.ensures.same in
      let first = handle_caller c.args.handle.now.registrar in let old = handle_caller c.loop.handle.registrar in let between = handle_caller c.try_take.new.self.registrar in let new = handle_caller c.run_mailbox.new.registrar in
      obligations-then actors first between new (obligations-then actors first old between c.loop.invariant.3 (obligations-same actors old between (ap pass_view same.0) same.1))
      (obligations-left actors between new c.run_mailbox.ensures.caller_advances);
  runs =
      runs-or-breaks g.K.Behaviours.gives c.args.system.now (pass_view c.args.handle.now.registrar.pass) (record c.try_take.new.self { registrar = c.run_mailbox.new.registrar })
      c.from_residual.result (IfOk-from_err c.from_residual.result _ c.from_residual.ensures.0) (returns-in_err-run_mailbox-clause-fault g c);
  claims =
      let did = c.run_mailbox.ensures in let took = c.try_take.ensures in
      tried-ran c.in-Some-try_take.claim c.args.handle.now c.loop.handle c.try_take.new.self (record c.try_take.new.self { registrar = c.run_mailbox.new.registrar }) c.try_take.result c.in-Some-try_take.is
      c.loop.invariant.5 took.same.0 took.account took.log did.back.claims refl;
}

pub returns-in_default-2-clause-keeps : goal.returns-in_default-2-clause-keeps
returns-in_default-2-clause-keeps g c = record {
  of_system = c.next_claim.ensures.same_handle.same_gates;
  number =
      let kept = kept-still g.K.Behaviours.gives c.args.system.now c.args.handle.now c.loop.handle c.try_take.new.self c.in_default.ensures.none.0 c.loop.invariant in
      c.next_claim.ensures.same_handle.number ∙ kept.1;
  log_kept =
      let kept = kept-still g.K.Behaviours.gives c.args.system.now c.args.handle.now c.loop.handle c.try_take.new.self c.in_default.ensures.none.0 c.loop.invariant in
      saw-then _ _ _ kept.2 c.next_claim.ensures.same_handle.log_kept;
  obligations =
      let kept = kept-still g.K.Behaviours.gives c.args.system.now c.args.handle.now c.loop.handle c.try_take.new.self c.in_default.ensures.none.0 c.loop.invariant in
      let actors = actors_of c.args.system.now.gates in
      let first = handle_caller c.args.handle.now.registrar in let old = handle_caller c.try_take.new.self.registrar in let between = handle_caller c.next_claim.new.handle.registrar in
      obligations-then actors first old between kept.3 c.next_claim.ensures.obligations;
  runs =
      let ran = (returns-in_default-2-clause-done g c).2 in inl ran;
  claims =
      let kept = kept-still g.K.Behaviours.gives c.args.system.now c.args.handle.now c.loop.handle c.try_take.new.self c.in_default.ensures.none.0 c.loop.invariant in
      claims-then [] c.args.handle.now c.try_take.new.self c.next_claim.new.handle kept.5
      (subst (λ next. RunsEachClaimBut (option_to_list next) c.try_take.new.self c.next_claim.new.handle) c.in_default-2.is c.in_ok-claim.ensures.claims);
}

pub returns-in_err-claim-clause-keeps : goal.returns-in_err-claim-clause-keeps
returns-in_err-claim-clause-keeps g c = record {
  of_system = c.next_claim.ensures.same_handle.same_gates;
  number =
      let kept = kept-still g.K.Behaviours.gives c.args.system.now c.args.handle.now c.loop.handle c.try_take.new.self c.in_default.ensures.none.0 c.loop.invariant in
      c.next_claim.ensures.same_handle.number ∙ kept.1;
  log_kept =
      let kept = kept-still g.K.Behaviours.gives c.args.system.now c.args.handle.now c.loop.handle c.try_take.new.self c.in_default.ensures.none.0 c.loop.invariant in
      saw-then _ _ _ kept.2 c.next_claim.ensures.same_handle.log_kept;
  obligations =
      let kept = kept-still g.K.Behaviours.gives c.args.system.now c.args.handle.now c.loop.handle c.try_take.new.self c.in_default.ensures.none.0 c.loop.invariant in
      let actors = actors_of c.args.system.now.gates in
      let first = handle_caller c.args.handle.now.registrar in let old = handle_caller c.try_take.new.self.registrar in let between = handle_caller c.next_claim.new.handle.registrar in
      obligations-then actors first old between kept.3 c.next_claim.ensures.obligations;
  runs =
      runs-or-breaks g.K.Behaviours.gives c.args.system.now (pass_view c.args.handle.now.registrar.pass) (c.next_claim.new.handle)
      c.from_residual-in_err-claim.result (IfOk-from_err c.from_residual-in_err-claim.result _ c.from_residual-in_err-claim.ensures.0) (returns-in_err-claim-clause-fault g c);
  claims =
      let kept = kept-still g.K.Behaviours.gives c.args.system.now c.args.handle.now c.loop.handle c.try_take.new.self c.in_default.ensures.none.0 c.loop.invariant in
      claims-then [] c.args.handle.now c.try_take.new.self c.next_claim.new.handle kept.5 c.in_err-claim.ensures.claims;
}

pub returns-in_err-run_mailbox-2-clause-keeps : goal.returns-in_err-run_mailbox-2-clause-keeps
returns-in_err-run_mailbox-2-clause-keeps g c = record {
  of_system = c.run_mailbox-in-loop.ensures.same_gates;
  number =
      let kept = kept-still g.K.Behaviours.gives c.args.system.now c.args.handle.now c.loop.handle c.try_take.new.self c.in_default.ensures.none.0 c.loop.invariant in
      c.next_claim.ensures.same_handle.number ∙ kept.1;
  log_kept =
      let kept = kept-still g.K.Behaviours.gives c.args.system.now c.args.handle.now c.loop.handle c.try_take.new.self c.in_default.ensures.none.0 c.loop.invariant in
      saw-then _ _ _ (saw-then _ _ _ kept.2 c.next_claim.ensures.same_handle.log_kept) c.run_mailbox-in-loop.ensures.caller_advances.log;
  obligations =
      let kept = kept-still g.K.Behaviours.gives c.args.system.now c.args.handle.now c.loop.handle c.try_take.new.self c.in_default.ensures.none.0 c.loop.invariant in
      let actors = actors_of c.args.system.now.gates in
      let first = handle_caller c.args.handle.now.registrar in let old = handle_caller c.try_take.new.self.registrar in let between = handle_caller c.next_claim.new.handle.registrar in let new = handle_caller c.run_mailbox-in-loop.new.registrar in
      obligations-then actors first between new (obligations-then actors first old between kept.3 c.next_claim.ensures.obligations)
      (obligations-left actors between new c.run_mailbox-in-loop.ensures.caller_advances);
  runs =
      runs-or-breaks g.K.Behaviours.gives c.args.system.now (pass_view c.args.handle.now.registrar.pass) (record c.next_claim.new.handle { registrar = c.run_mailbox-in-loop.new.registrar })
      c.from_residual-in_err-run_mailbox-2.result (IfOk-from_err c.from_residual-in_err-run_mailbox-2.result _ c.from_residual-in_err-run_mailbox-2.ensures.0) (returns-in_err-run_mailbox-2-clause-fault g c);
  claims =
      let kept = kept-still g.K.Behaviours.gives c.args.system.now c.args.handle.now c.loop.handle c.try_take.new.self c.in_default.ensures.none.0 c.loop.invariant in
      let did = c.run_mailbox-in-loop.ensures in
      next-ran c.in-Some-2.claim c.args.handle.now c.try_take.new.self c.next_claim.new.handle (record c.next_claim.new.handle { registrar = c.run_mailbox-in-loop.new.registrar }) c.in_ok-claim.field-0 c.in-Some-2.is
      kept.5 c.in_ok-claim.ensures.claims did.back.claims refl;
}
