use Rattle.std.proofs.Common.{◌≡◌, ◌∙◌, ◌++◌, subst, sym, ap}
use Rattle.std.proofs.lemmas.Result.{IfOk-from_err, MatchResult-from_err}
use Rattle.std.specs.Global.{Box}
use Rattle.std.specs.Prelude.{IfErr, IfSome, Option, Some, option_to_list}
use Rattle.mb_gate.specs.Accessors.{actors_of, pass_id, pass_view}
use Rattle.mb_gate.specs.Rule.{IsPart}
use Rattle.mb_gate.specs.Untouched.{Origin, origin_of}
use Rattle.mb_home.specs.Contents.{Contents}
use Rattle.mb_home.specs.Fresh.{IsFreshClaim}
use Rattle.mb_register.specs.ActorSet.{has_actor}
use Rattle.mb_system.specs.Members.{claims_taken, handle_caller}
use Rattle.mb_system.specs.OnlyLooks.{OnlyLooks}
use Rattle.mb_system.proofs.Looking.{only-none}
use Rattle.mb_system.proofs.Obligations.{obligations-same, obligations-then}
use Rattle.mb_system.proofs.RunErrors.{on-error}
use Rattle.mb_system.proofs.Saw.{saw-same}
use Rattle.mb_dispatch.specs.Faults.{BreaksWork}
use Rattle.mb_dispatch.specs.Claims.{RunsEachClaim}
use Rattle.mb_dispatch.proofs.Breaking.{breaks-retry}
use Rattle.mb_dispatch.proofs.Claims.{claims-registered, claims-then, claims-took}
use Rattle.mb_dispatch.proofs.Runs.{of-looks}
use Rattle.mb_dispatch.proofs.Sides.{if_none_and}
use Rattle.mb_dispatch.proofs.working.next_claim.Goals as goal

pub returns-in-Some-clause-same_handle : goal.returns-in-Some-clause-same_handle
returns-in-Some-clause-same_handle g c = record {
  same_gates =
      let same = c.take.ensures.same in let ours = c.requires.same_gates in (ap pass_id same.0 ∙ ours.0, same.2 ∙ ours.1, ours.2);
  number = c.take.ensures.same.3;
  log_kept =
      subst (λ p. IsPart (pass_view c.args.handle.now.registrar.pass).log (pass_view p).log) (sym c.take.ensures.same.0) (saw-same _);
}

pub returns-in-Some-clause-untouched : goal.returns-in-Some-clause-untouched
returns-in-Some-clause-untouched g c =
    subst (λ (o : Option (Origin (Box Contents))). IsFreshClaim g.K.Behaviours.gives o c.in-Some.claim) c.requires.same_gates.1 c.in-Some.ensures.untouched

pub returns-in-Some-clause-none : goal.returns-in-Some-clause-none
returns-in-Some-clause-none g c = tt

pub returns-in-Some-clause-obligations : goal.returns-in-Some-clause-obligations
returns-in-Some-clause-obligations g c =
    let same = c.take.ensures.same in let actors = actors_of c.args.system.now.gates in let first = handle_caller c.args.handle.now.registrar in
    let taken = handle_caller c.take.new.self.registrar in obligations-same actors first taken (ap pass_view same.0) same.1

pub returns-in-Some-clause-looks : goal.returns-in-Some-clause-looks
returns-in-Some-clause-looks g c =
    let start = pass_view c.args.handle.now.registrar.pass in subst (λ p. OnlyLooks start (pass_view p)) (sym c.take.ensures.same.0) (only-none start)

pub returns-in-Some-clause-fault : goal.returns-in-Some-clause-fault
returns-in-Some-clause-fault g c = tt

pub returns-in_err-retry_refused-clause-same_handle : goal.returns-in_err-retry_refused-clause-same_handle
returns-in_err-retry_refused-clause-same_handle g c = record {
  same_gates = c.retry_refused.ensures.same_handle.same_gates;
  number = c.retry_refused.ensures.same_handle.number ∙ c.take.ensures.same.3;
  log_kept =
      subst (λ p. IsPart (pass_view p).log (pass_view c.retry_refused.new.self.registrar.pass).log) c.take.ensures.same.0 c.retry_refused.ensures.same_handle.log_kept;
}

pub returns-in_err-retry_refused-clause-untouched : goal.returns-in_err-retry_refused-clause-untouched
returns-in_err-retry_refused-clause-untouched g c = IfOk-from_err c.from_residual.result _ c.from_residual.ensures.0

pub returns-in_err-retry_refused-clause-none : goal.returns-in_err-retry_refused-clause-none
returns-in_err-retry_refused-clause-none g c = IfOk-from_err c.from_residual.result _ c.from_residual.ensures.0

pub returns-in_err-retry_refused-clause-obligations : goal.returns-in_err-retry_refused-clause-obligations
returns-in_err-retry_refused-clause-obligations g c =
    let same = c.take.ensures.same in let actors = actors_of c.args.system.now.gates in let first = handle_caller c.args.handle.now.registrar in
    let taken = handle_caller c.take.new.self.registrar in let retried = handle_caller c.retry_refused.new.self.registrar in
    obligations-then actors first taken retried (obligations-same actors first taken (ap pass_view same.0) same.1) c.retry_refused.ensures.forgets_nothing.obligations

pub returns-in_err-retry_refused-clause-looks : goal.returns-in_err-retry_refused-clause-looks
returns-in_err-retry_refused-clause-looks g c =
    subst (λ p. OnlyLooks (pass_view p) (pass_view c.retry_refused.new.self.registrar.pass)) c.take.ensures.same.0 c.retry_refused.ensures.looks_for_work.looks

pub returns-in_err-retry_refused-clause-fault : goal.returns-in_err-retry_refused-clause-fault
returns-in_err-retry_refused-clause-fault g c =
    let gives = g.K.Behaviours.gives in let system = c.args.system.now in let handle = c.retry_refused.new.self in
    let did = c.retry_refused.ensures in let start = pass_view c.args.handle.now.registrar.pass in let new = pass_view handle.registrar.pass in
    let looks = subst (λ p. OnlyLooks (pass_view p) new) c.take.ensures.same.0 did.looks_for_work.looks in
    on-error c.from_residual.result (BreaksWork gives system start handle) _ c.from_residual.ensures.1
    (subst (λ r. IfErr r (BreaksWork gives system start handle)) c.in_err-retry_refused.was
    (breaks-retry gives system start handle (handle_caller c.take.new.self.registrar).account _ c.retry_refused.result did.stops did.refused
    (of-looks gives (origin_of system.gates) system.throughput start new looks)))

pub returns-clause-same_handle : goal.returns-clause-same_handle
returns-clause-same_handle g c = record {
  same_gates =
      let same = c.wait-next.ensures.same in let ours = c.retry_refused.ensures.same_handle.same_gates in (ap pass_id same.0 ∙ ours.0, same.2 ∙ ours.1, ours.2);
  number = c.wait-next.ensures.same.3 ∙ c.retry_refused.ensures.same_handle.number ∙ c.take.ensures.same.3;
  log_kept =
      subst (λ p. IsPart (pass_view c.args.handle.now.registrar.pass).log (pass_view p).log) (sym c.wait-next.ensures.same.0)
      (subst (λ p. IsPart (pass_view p).log (pass_view c.retry_refused.new.self.registrar.pass).log) c.take.ensures.same.0 c.retry_refused.ensures.same_handle.log_kept);
}

pub returns-clause-untouched : goal.returns-clause-untouched
returns-clause-untouched g c =
    subst (λ (o : Option (Origin (Box Contents))). IfSome c.wait-next.result (IsFreshClaim g.K.Behaviours.gives o)) c.retry_refused.ensures.same_handle.same_gates.1 c.wait-next.ensures.untouched

pub returns-clause-none : goal.returns-clause-none
returns-clause-none g c =
    if_none_and _ _ c.wait-next.result (λ id lt. ap (λ o. has_actor o id) c.wait-next.ensures.same.1 ∙ c.in_ok-retry_refused.ensures.retried.done id lt)
    c.wait-next.ensures.empty

pub returns-clause-obligations : goal.returns-clause-obligations
returns-clause-obligations g c =
    let same = c.take.ensures.same in let waited = c.wait-next.ensures.same in let actors = actors_of c.args.system.now.gates in let first = handle_caller c.args.handle.now.registrar in
    let taken = handle_caller c.take.new.self.registrar in let retried = handle_caller c.retry_refused.new.self.registrar in let new = handle_caller c.wait-next.new.handle.registrar in
    obligations-then actors first taken new (obligations-same actors first taken (ap pass_view same.0) same.1)
    (obligations-then actors taken retried new c.retry_refused.ensures.forgets_nothing.obligations (obligations-same actors retried new (ap pass_view waited.0) waited.1))

pub returns-clause-looks : goal.returns-clause-looks
returns-clause-looks g c =
    subst (λ p. OnlyLooks (pass_view c.args.handle.now.registrar.pass) (pass_view p)) (sym c.wait-next.ensures.same.0)
    (subst (λ p. OnlyLooks (pass_view p) (pass_view c.retry_refused.new.self.registrar.pass)) c.take.ensures.same.0 c.retry_refused.ensures.looks_for_work.looks)

pub returns-clause-fault : goal.returns-clause-fault
returns-clause-fault g c = tt

pub returns-in-Some-clause-claims : goal.returns-in-Some-clause-claims
returns-in-Some-clause-claims g c =
    let took = c.take.ensures in
    claims-took (Some c.in-Some.claim) c.args.handle.now c.take.new.self took.same.0 took.account
    (subst (λ next. claims_taken c.take.new.self ≡ claims_taken c.args.handle.now ++ option_to_list next) c.in-Some.is took.log)

pub returns-in_err-retry_refused-clause-claims : goal.returns-in_err-retry_refused-clause-claims
returns-in_err-retry_refused-clause-claims g c =
    let took = c.take.ensures in let did = c.retry_refused.ensures in let first = c.args.handle.now in let new = c.retry_refused.new.self in
    let still : c.take.new.self ≡ first = c.in_default.ensures.none.0 in
    MatchResult-from_err c.from_residual.result _ _ c.from_residual.ensures.0
    (λ error. subst (λ e. RunsEachClaim e new) still (claims-registered c.take.new.self new did.forgets_nothing.handed did.log))

pub returns-clause-claims : goal.returns-clause-claims
returns-clause-claims g c =
    let did = c.retry_refused.ensures in let first = c.args.handle.now in let between = c.retry_refused.new.self in let new = c.wait-next.new.handle in
    let still : c.take.new.self ≡ first = c.in_default.ensures.none.0 in
    claims-then (option_to_list c.wait-next.result) first between new
    (subst (λ e. RunsEachClaim e between) still (claims-registered c.take.new.self between did.forgets_nothing.handed did.log)) c.wait-next.ensures.claims
