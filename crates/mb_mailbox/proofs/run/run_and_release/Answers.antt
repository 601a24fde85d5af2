use Rattle.std.proofs.Common.{◌≡◌, ◌≤◌, length, refl, sym, ap, ◌∙◌, subst, arith}
use Rattle.std.specs.Prelude.{OnOk, Result, Err}
use Rattle.mb_journal.specs.declared.error.ReadyError.{ReadyError}
use Rattle.mb_journal.specs.Identity.{Identity}
use Rattle.mb_journal.specs.Life.{closed}
use Rattle.mb_journal.specs.Run.{IsReason}
use Rattle.mb_journal.specs.Run.Stopped.{NoRoom}
use Rattle.mb_gate.specs.Accessors.{pass_view, claim_view, drained_by, held_actor, taken_with}
use Rattle.mb_gate.specs.Returned.{GoesOn}
use Rattle.mb_gate.specs.Rule.{IsAmong}
use Rattle.mb_gate.specs.View.{View}
use Rattle.mb_ghost.proofs.SeenLemmas.{each_append}
use Rattle.mb_home.specs.AtHome.{system_entries}
use Rattle.mb_gate.specs.Untouched.{origin_of}
use Rattle.mb_register.specs.Views.{LooksAfter}
use Rattle.mb_register.specs.ActorSet.{has_actor}
use Rattle.mb_register.specs.Told.{ToldView}
use Rattle.mb_register.specs.Caller.{IsDischargedOrOwed, caller_of}
use Rattle.mb_mailbox.specs.Emptied.{IsCleared}
use Rattle.mb_mailbox.specs.RunState.{run_state}
use Rattle.mb_mailbox.specs.Ran.{HasStopped, IsShortOfMemory, LosesNoClaimBut}
use Rattle.mb_mailbox.proofs.AppliedLemmas.{same-fault}
use Rattle.mb_register.proofs.CallerLemmas.{account-registered}
use Rattle.mb_register.proofs.ClaimCounts.{loses-handed}
use Rattle.mb_mailbox.proofs.ClaimLemmas.{loses-but, run-due}
use Rattle.mb_mailbox.proofs.FinishLemmas.{home-own, home-longer, home-fold, home-told, home-rest, saw-journal, given-after, listed-after, steps-taken, leaves-caller, leaves-run}
use Rattle.mb_mailbox.proofs.FinishLemmas.{each-before, ends-cleared, ends-empty, gives-back}
use Rattle.mb_mailbox.proofs.FreshLemmas.{taken-fresh, log-fresh, taken-begun, running-fresh, backlog-fresh, run_counts-fresh}
use Rattle.mb_mailbox.proofs.StepSendsLemmas.{sent-by-run}
use Rattle.mb_mailbox.proofs.run.run_and_release.Goals as goal

-- ---- the claim as it was taken

pub run_claim-outcome-requires-clause-in_run : goal.run_claim-outcome-requires-clause-in_run
run_claim-outcome-requires-clause-in_run g c =
    let gives = g.K.Behaviours.gives in let origin = origin_of c.args.gates.now in let fresh = c.requires.untouched in record {
      same_gates = c.requires.same_gates;
      running = running-fresh gives origin c.args.claim fresh (pass_view c.args.registrar.now.pass).log c.requires.same_count;
      backlog = backlog-fresh gives origin c.args.claim fresh;
      carried_out = fresh.same_gates.of_actor.carried_out;
      run_counts = run_counts-fresh gives origin c.args.claim fresh _ c.actor-actor.ensures refl refl;
    }

pub run_claim-outcome-requires-clause-none_taken : goal.run_claim-outcome-requires-clause-none_taken
run_claim-outcome-requires-clause-none_taken g c = refl

-- ---- it may be given back

pub release-requires-clause-same_gates : goal.release-requires-clause-same_gates
release-requires-clause-same_gates g c = (c.run_claim-outcome.ensures.in_run.running.same_gates, c.run_claim-outcome.ensures.in_run.same_gates.0)

pub release-requires-clause-present : goal.release-requires-clause-present
release-requires-clause-present g c = c.run_claim-outcome.ensures.in_run.running.present

pub release-requires-clause-may_go_home : goal.release-requires-clause-may_go_home
release-requires-clause-may_go_home g c = record {
  home_of_actor =
      home-own _ _ _ c.run_claim-outcome.new.claim c.run_claim-outcome.ensures.in_run.running c.run_claim-outcome.ensures.in_run.carried_out;
  extends = home-longer _ _ _ c.run_claim-outcome.new.claim c.run_claim-outcome.ensures.in_run.running;
  fold = home-fold _ _ _ c.run_claim-outcome.new.claim c.run_claim-outcome.ensures.in_run.running;
  count = c.run_claim-outcome.ensures.in_run.backlog.count;
  known_closed = c.run_claim-outcome.ensures.in_run.running.known_closed;
  drained =
      let last = c.run_claim-outcome.new.claim in
      let r = c.run_claim-outcome.ensures.in_run.running in
      each_append (λ m. IsAmong m (drained_by last)) (system_entries last.home.value.cell.journal) last.home.value.rest r.entered r.left;
  rest =
      home-rest _ _ _ c.run_claim-outcome.new.claim c.run_claim-outcome.ensures.in_run.running c.run_claim-outcome.ensures.in_run.backlog;
}

pub release-requires-clause-told : goal.release-requires-clause-told
release-requires-clause-told g c = home-told _ _ _ c.run_claim-outcome.new.claim c.run_claim-outcome.ensures.in_run.running

pub register-requires-clause-same_gates : goal.register-requires-clause-same_gates
register-requires-clause-same_gates g c = (
  c.release.ensures.same_gates ∙ c.run_claim-outcome.ensures.in_run.same_gates.0,
  c.run_claim-outcome.ensures.in_run.same_gates.1,
)

pub returns-in-Ok-clause-same_gates : goal.returns-in-Ok-clause-same_gates
returns-in-Ok-clause-same_gates g c = (
  c.register.ensures.registers.same_gates.0 ∙ c.release.ensures.same_gates ∙ c.run_claim-outcome.ensures.in_run.same_gates.0,
  c.register.ensures.registers.same_gates.1 ∙ c.run_claim-outcome.ensures.in_run.same_gates.1,
  c.requires.same_gates.2,
  λ id few told. c.run_claim-outcome.ensures.in_run.same_gates.3 id few (sym (ap (λ (t : ToldView). has_actor t.set id) c.register.ensures.registers.told) ∙ told),
)

pub returns-in-Err-clause-same_gates : goal.returns-in-Err-clause-same_gates
returns-in-Err-clause-same_gates g c = (
  c.register.ensures.registers.same_gates.0 ∙ c.release.ensures.same_gates ∙ c.run_claim-outcome.ensures.in_run.same_gates.0,
  c.register.ensures.registers.same_gates.1 ∙ c.run_claim-outcome.ensures.in_run.same_gates.1,
  c.requires.same_gates.2,
  λ id few told. c.run_claim-outcome.ensures.in_run.same_gates.3 id few (sym (ap (λ (t : ToldView). has_actor t.set id) c.register.ensures.registers.told) ∙ told),
)

pub register-requires-clause-present : goal.register-requires-clause-present
register-requires-clause-present g c =
    let is = c.actor-actor.ensures in let below = c.requires.untouched.same_gates.present in let few = c.requires.same_gates.2 in
    (omega (arith, is, below), omega (arith, is, below, few))

-- ---- what it leaves

pub returns-in-Ok-clause-caller_advances : goal.returns-in-Ok-clause-caller_advances
returns-in-Ok-clause-caller_advances g c =
    let run = c.run_claim-outcome in
    let last = run.new.claim in
    let here : c.actor-actor.result.0 ≡ held_actor last = c.actor-actor.ensures ∙ sym run.ensures.advances.same.actor in
    leaves-caller (held_actor last) last.home.value.cell.journal (claim_view last) (pass_view c.release.new.pass) _ _ _
    run.ensures.in_run.running.owes_nothing run.ensures.in_run.running.bare c.release.ensures.known
    (subst (λ n. LooksAfter n (pass_view c.release.new.pass) (pass_view c.register.new.self.pass)) here c.register.ensures.registers.looks)
    run.ensures.advances.caller_advances (ap (λ (t : ToldView). t.set) c.register.ensures.registers.told)
    (account-registered c.actor-actor.result.0 _ _ c.register.result c.register.ensures.registered)
    (subst (λ n. IsDischargedOrOwed n (caller_of g.W.RunQueue.pushed g.W.RunQueue.refused c.register.new.self)) here c.register.ensures.discharged)

pub returns-in-Err-clause-caller_advances : goal.returns-in-Err-clause-caller_advances
returns-in-Err-clause-caller_advances g c =
    let run = c.run_claim-outcome in
    let last = run.new.claim in
    let here : c.actor-actor.result.0 ≡ held_actor last = c.actor-actor.ensures ∙ sym run.ensures.advances.same.actor in
    leaves-caller (held_actor last) last.home.value.cell.journal (claim_view last) (pass_view c.release.new.pass) _ _ _
    run.ensures.in_run.running.owes_nothing run.ensures.in_run.running.bare c.release.ensures.known
    (subst (λ n. LooksAfter n (pass_view c.release.new.pass) (pass_view c.register.new.self.pass)) here c.register.ensures.registers.looks)
    run.ensures.advances.caller_advances (ap (λ (t : ToldView). t.set) c.register.ensures.registers.told)
    (account-registered c.actor-actor.result.0 _ _ c.register.result c.register.ensures.registered)
    (subst (λ n. IsDischargedOrOwed n (caller_of g.W.RunQueue.pushed g.W.RunQueue.refused c.register.new.self)) here c.register.ensures.discharged)

pub returns-in-Ok-clause-back : goal.returns-in-Ok-clause-back
returns-in-Ok-clause-back g c = record {
  claims =
      let run = c.run_claim-outcome in
      let last = run.new.claim in
      let first = caller_of g.W.RunQueue.pushed g.W.RunQueue.refused c.args.registrar.now in
      let then = caller_of g.W.RunQueue.pushed g.W.RunQueue.refused run.new.registrar in
      let new = caller_of g.W.RunQueue.pushed g.W.RunQueue.refused c.register.new.self in
      let registered = loses-handed c.actor-actor.result.0 _ _ _ _ c.register.result c.register.ensures.handed in
      subst (λ n. LosesNoClaimBut n first new) run.ensures.advances.same.actor
      (loses-but (held_actor last) last.home.value.cell.journal (claim_view last) (pass_view c.release.new.pass) first then
      run.ensures.in_run.running.none_got c.release.ensures.known run.ensures.advances.caller_advances new run.ensures.in_run.running.none_returned registered);
  discharged =
      subst (λ n. IsDischargedOrOwed n (caller_of g.W.RunQueue.pushed g.W.RunQueue.refused c.register.new.self)) c.actor-actor.ensures c.register.ensures.discharged;
}

pub returns-in-Err-clause-back : goal.returns-in-Err-clause-back
returns-in-Err-clause-back g c = record {
  claims =
      let run = c.run_claim-outcome in
      let last = run.new.claim in
      let first = caller_of g.W.RunQueue.pushed g.W.RunQueue.refused c.args.registrar.now in
      let then = caller_of g.W.RunQueue.pushed g.W.RunQueue.refused run.new.registrar in
      let new = caller_of g.W.RunQueue.pushed g.W.RunQueue.refused c.register.new.self in
      let registered = loses-handed c.actor-actor.result.0 _ _ _ _ c.register.result c.register.ensures.handed in
      subst (λ n. LosesNoClaimBut n first new) run.ensures.advances.same.actor
      (loses-but (held_actor last) last.home.value.cell.journal (claim_view last) (pass_view c.release.new.pass) first then
      run.ensures.in_run.running.none_got c.release.ensures.known run.ensures.advances.caller_advances new run.ensures.in_run.running.none_returned registered);
  discharged =
      subst (λ n. IsDischargedOrOwed n (caller_of g.W.RunQueue.pushed g.W.RunQueue.refused c.register.new.self)) c.actor-actor.ensures c.register.ensures.discharged;
}

pub returns-in-Ok-clause-answer : goal.returns-in-Ok-clause-answer
returns-in-Ok-clause-answer g c = record {
  ran =
      let run = c.run_claim-outcome in
      let last = run.new.claim in
      let turn = run.new.turn in
      let journal = last.home.value.cell.journal in
      let here : c.actor-actor.result.0 ≡ held_actor last = c.actor-actor.ensures ∙ sym run.ensures.advances.same.actor in
      let looks =
      subst (λ n. LooksAfter n (pass_view c.release.new.pass) (pass_view c.register.new.self.pass)) here c.register.ensures.registers.looks in
      let saw = saw-journal (held_actor last) journal (claim_view last) (pass_view run.new.registrar.pass) (pass_view c.release.new.pass)
      run.ensures.in_run.running.owes_nothing c.release.ensures.known (pass_view c.register.new.self.pass) looks in
      let part = steps-taken (held_actor last) journal (claim_view last) (pass_view run.new.registrar.pass) (pass_view c.release.new.pass)
      run.ensures.in_run.running.owes_nothing c.release.ensures.known (pass_view c.register.new.self.pass) looks
      (caller_of g.W.RunQueue.pushed g.W.RunQueue.refused c.args.registrar.now) (caller_of g.W.RunQueue.pushed g.W.RunQueue.refused run.new.registrar) refl run.ensures.advances.caller_advances in
      let gives = gives-back (held_actor last) journal (claim_view last) (pass_view run.new.registrar.pass) (pass_view c.release.new.pass)
      run.ensures.in_run.running.owes_nothing c.release.ensures.known (pass_view c.register.new.self.pass) looks
      (caller_of g.W.RunQueue.pushed g.W.RunQueue.refused c.args.registrar.now) (caller_of g.W.RunQueue.pushed g.W.RunQueue.refused run.new.registrar)
      refl run.ensures.advances.caller_advances run.ensures.in_run.running.none_released in
      let due = run-due (held_actor last) journal (claim_view last) (pass_view c.release.new.pass)
      (caller_of g.W.RunQueue.pushed g.W.RunQueue.refused c.args.registrar.now) (caller_of g.W.RunQueue.pushed g.W.RunQueue.refused run.new.registrar)
      run.ensures.in_run.running.none_got c.release.ensures.known run.ensures.advances.caller_advances c.actor-actor.result.0 _ _
      (pass_view c.register.new.self.pass) c.register.result c.register.ensures.registers.looks c.register.ensures.handed c.register.ensures.due in
      let goes_on = each-before (GoesOn (held_actor last) (taken_with last))
      (caller_of g.W.RunQueue.pushed g.W.RunQueue.refused c.args.registrar.now) (caller_of g.W.RunQueue.pushed g.W.RunQueue.refused run.new.registrar)
      run.ensures.advances.caller_advances c.release.ensures.goes_on in
      let kept = c.register.ensures.registers.looks.sent_system ∙ ap (λ (v : View). v.sent_system) c.release.ensures.known in
      let given = given-after (held_actor last) journal (claim_view last) (pass_view run.new.registrar.pass) (pass_view c.release.new.pass)
      run.ensures.in_run.running.owes_nothing c.release.ensures.known (pass_view c.register.new.self.pass) looks in
      let puts = listed-after (held_actor last) journal (claim_view last) (pass_view run.new.registrar.pass) (pass_view c.release.new.pass)
      run.ensures.in_run.running.owes_nothing c.release.ensures.known (pass_view c.register.new.self.pass) looks
      run.ensures.in_run.running.puts_nothing in
      let taken = taken-fresh g.K.Behaviours.gives (origin_of c.args.gates.now) c.args.claim c.requires.untouched in
      let fresh = log-fresh g.K.Behaviours.gives (origin_of c.args.gates.now) c.args.claim c.requires.untouched in
      let told = sent-by-run g.K.Behaviours.gives (origin_of c.args.gates.now) (pass_view run.new.registrar.pass).log (run_state c.args.claim)
      (run_state last) run.ensures.advances.same.who c.requires.untouched.recorded fresh run.ensures.in_run.running run.ensures.in_run.backlog
      run.ensures.advances.entries in
      let at_first = taken-begun g.K.Behaviours.gives (origin_of c.args.gates.now) c.args.claim c.requires.untouched in
      let origin = origin_of c.args.gates.now in
      let first = run_state c.args.claim in
      let now = run_state last in
      let ended = subst (λ (o : Result (Unit {0}) ReadyError). OnOk o (HasStopped first.home.take now c.args.throughput turn.envelopes)) c.in-Ok.is
      run.ensures.ended in
      let cleared = subst (λ (o : Result (Unit {0}) ReadyError). OnOk o (IsCleared first now)) c.in-Ok.is run.ensures.advances.cleared in
      let who : now.home.cell.who ≡ first.home.cell.who = run.ensures.advances.same.who in
      let empty = ends-empty first.home.cell.who c.args.throughput turn.envelopes ended.0 first.home.take now ended.1 ended.3
      (subst (λ (w : Identity). IsReason w c.args.throughput turn.envelopes journal ended.0) who ended.4)
      (λ shut. ends-cleared g.K.Behaviours.gives origin (pass_view run.new.registrar.pass).log first now c.requires.untouched.open_yet run.ensures.in_run.running
      cleared (ap (λ (w : Identity). closed w journal) who ∙ shut)) in (
        journal,
        (
          ended.0,
          ended.1,
          leaves-run c.args.throughput c.args.claim last (pass_view c.args.registrar.now.pass) (pass_view c.register.new.self.pass) turn ended.0
              taken run.ensures.advances.same
              run.ensures.in_run.run_counts run.ensures.within_limit ended.4 ended.2 ended.5 run.ensures.in_run.running.only_drained saw goes_on
              (returns-in-Ok-clause-caller_advances g c).share gives part due
              (pass_view run.new.registrar.pass) run.ensures.advances.sends kept puts given c.requires.untouched.recorded told fresh at_first
              run.ensures.in_run.running.settled.taken run.ensures.in_run.running.settled.open_keeps empty,
        ),
      );
  out_of_memory = λ short. absurd (cc short);
}

pub returns-in-Err-clause-answer : goal.returns-in-Err-clause-answer
returns-in-Err-clause-answer g c = record {
  ran =
      let run = c.run_claim-outcome in
      let last = run.new.claim in
      let turn = run.new.turn in
      let journal = last.home.value.cell.journal in
      let here : c.actor-actor.result.0 ≡ held_actor last = c.actor-actor.ensures ∙ sym run.ensures.advances.same.actor in
      let looks =
      subst (λ n. LooksAfter n (pass_view c.release.new.pass) (pass_view c.register.new.self.pass)) here c.register.ensures.registers.looks in
      let saw = saw-journal (held_actor last) journal (claim_view last) (pass_view run.new.registrar.pass) (pass_view c.release.new.pass)
      run.ensures.in_run.running.owes_nothing c.release.ensures.known (pass_view c.register.new.self.pass) looks in
      let part = steps-taken (held_actor last) journal (claim_view last) (pass_view run.new.registrar.pass) (pass_view c.release.new.pass)
      run.ensures.in_run.running.owes_nothing c.release.ensures.known (pass_view c.register.new.self.pass) looks
      (caller_of g.W.RunQueue.pushed g.W.RunQueue.refused c.args.registrar.now) (caller_of g.W.RunQueue.pushed g.W.RunQueue.refused run.new.registrar) refl run.ensures.advances.caller_advances in
      let gives = gives-back (held_actor last) journal (claim_view last) (pass_view run.new.registrar.pass) (pass_view c.release.new.pass)
      run.ensures.in_run.running.owes_nothing c.release.ensures.known (pass_view c.register.new.self.pass) looks
      (caller_of g.W.RunQueue.pushed g.W.RunQueue.refused c.args.registrar.now) (caller_of g.W.RunQueue.pushed g.W.RunQueue.refused run.new.registrar)
      refl run.ensures.advances.caller_advances run.ensures.in_run.running.none_released in
      let due = run-due (held_actor last) journal (claim_view last) (pass_view c.release.new.pass)
      (caller_of g.W.RunQueue.pushed g.W.RunQueue.refused c.args.registrar.now) (caller_of g.W.RunQueue.pushed g.W.RunQueue.refused run.new.registrar)
      run.ensures.in_run.running.none_got c.release.ensures.known run.ensures.advances.caller_advances c.actor-actor.result.0 _ _
      (pass_view c.register.new.self.pass) c.register.result c.register.ensures.registers.looks c.register.ensures.handed c.register.ensures.due in
      let goes_on = each-before (GoesOn (held_actor last) (taken_with last))
      (caller_of g.W.RunQueue.pushed g.W.RunQueue.refused c.args.registrar.now) (caller_of g.W.RunQueue.pushed g.W.RunQueue.refused run.new.registrar)
      run.ensures.advances.caller_advances c.release.ensures.goes_on in
      let kept = c.register.ensures.registers.looks.sent_system ∙ ap (λ (v : View). v.sent_system) c.release.ensures.known in
      let given = given-after (held_actor last) journal (claim_view last) (pass_view run.new.registrar.pass) (pass_view c.release.new.pass)
      run.ensures.in_run.running.owes_nothing c.release.ensures.known (pass_view c.register.new.self.pass) looks in
      let puts = listed-after (held_actor last) journal (claim_view last) (pass_view run.new.registrar.pass) (pass_view c.release.new.pass)
      run.ensures.in_run.running.owes_nothing c.release.ensures.known (pass_view c.register.new.self.pass) looks
      run.ensures.in_run.running.puts_nothing in
      let taken = taken-fresh g.K.Behaviours.gives (origin_of c.args.gates.now) c.args.claim c.requires.untouched in
      let fresh = log-fresh g.K.Behaviours.gives (origin_of c.args.gates.now) c.args.claim c.requires.untouched in
      let told = sent-by-run g.K.Behaviours.gives (origin_of c.args.gates.now) (pass_view run.new.registrar.pass).log (run_state c.args.claim)
      (run_state last) run.ensures.advances.same.who c.requires.untouched.recorded fresh run.ensures.in_run.running run.ensures.in_run.backlog
      run.ensures.advances.entries in
      let at_first = taken-begun g.K.Behaviours.gives (origin_of c.args.gates.now) c.args.claim c.requires.untouched in (
        journal,
        (
          turn,
          leaves-run c.args.throughput c.args.claim last (pass_view c.args.registrar.now.pass) (pass_view c.register.new.self.pass) turn NoRoom
              taken run.ensures.advances.same
              run.ensures.in_run.run_counts run.ensures.within_limit tt tt tt run.ensures.in_run.running.only_drained saw goes_on
              (returns-in-Err-clause-caller_advances g c).share gives part due
              (pass_view run.new.registrar.pass) run.ensures.advances.sends kept puts given c.requires.untouched.recorded told fresh at_first
              run.ensures.in_run.running.settled.taken run.ensures.in_run.running.settled.open_keeps (λ ends. absurd ends),
          λ full. subst (λ (w : Identity). w.limit ≤ length journal) run.ensures.advances.same.who
              (run.ensures.stops.full (c.in-Err.is ∙ ap (λ (f : ReadyError). Err f) (same-fault c.in-Err.fault full))),
        ),
      );
  out_of_memory =
      λ short.
      let run = c.run_claim-outcome in
      let last = run.new.claim in
      let turn = run.new.turn in
      let journal = last.home.value.cell.journal in
      let here : c.actor-actor.result.0 ≡ held_actor last = c.actor-actor.ensures ∙ sym run.ensures.advances.same.actor in
      let looks =
      subst (λ n. LooksAfter n (pass_view c.release.new.pass) (pass_view c.register.new.self.pass)) here c.register.ensures.registers.looks in
      let saw = saw-journal (held_actor last) journal (claim_view last) (pass_view run.new.registrar.pass) (pass_view c.release.new.pass)
      run.ensures.in_run.running.owes_nothing c.release.ensures.known (pass_view c.register.new.self.pass) looks in
      let part = steps-taken (held_actor last) journal (claim_view last) (pass_view run.new.registrar.pass) (pass_view c.release.new.pass)
      run.ensures.in_run.running.owes_nothing c.release.ensures.known (pass_view c.register.new.self.pass) looks
      (caller_of g.W.RunQueue.pushed g.W.RunQueue.refused c.args.registrar.now) (caller_of g.W.RunQueue.pushed g.W.RunQueue.refused run.new.registrar) refl run.ensures.advances.caller_advances in
      let gives = gives-back (held_actor last) journal (claim_view last) (pass_view run.new.registrar.pass) (pass_view c.release.new.pass)
      run.ensures.in_run.running.owes_nothing c.release.ensures.known (pass_view c.register.new.self.pass) looks
      (caller_of g.W.RunQueue.pushed g.W.RunQueue.refused c.args.registrar.now) (caller_of g.W.RunQueue.pushed g.W.RunQueue.refused run.new.registrar)
      refl run.ensures.advances.caller_advances run.ensures.in_run.running.none_released in
      let due = run-due (held_actor last) journal (claim_view last) (pass_view c.release.new.pass)
      (caller_of g.W.RunQueue.pushed g.W.RunQueue.refused c.args.registrar.now) (caller_of g.W.RunQueue.pushed g.W.RunQueue.refused run.new.registrar)
      run.ensures.in_run.running.none_got c.release.ensures.known run.ensures.advances.caller_advances c.actor-actor.result.0 _ _
      (pass_view c.register.new.self.pass) c.register.result c.register.ensures.registers.looks c.register.ensures.handed c.register.ensures.due in
      let goes_on = each-before (GoesOn (held_actor last) (taken_with last))
      (caller_of g.W.RunQueue.pushed g.W.RunQueue.refused c.args.registrar.now) (caller_of g.W.RunQueue.pushed g.W.RunQueue.refused run.new.registrar)
      run.ensures.advances.caller_advances c.release.ensures.goes_on in
      let kept = c.register.ensures.registers.looks.sent_system ∙ ap (λ (v : View). v.sent_system) c.release.ensures.known in
      let given = given-after (held_actor last) journal (claim_view last) (pass_view run.new.registrar.pass) (pass_view c.release.new.pass)
      run.ensures.in_run.running.owes_nothing c.release.ensures.known (pass_view c.register.new.self.pass) looks in
      let puts = listed-after (held_actor last) journal (claim_view last) (pass_view run.new.registrar.pass) (pass_view c.release.new.pass)
      run.ensures.in_run.running.owes_nothing c.release.ensures.known (pass_view c.register.new.self.pass) looks
      run.ensures.in_run.running.puts_nothing in
      let taken = taken-fresh g.K.Behaviours.gives (origin_of c.args.gates.now) c.args.claim c.requires.untouched in
      let fresh = log-fresh g.K.Behaviours.gives (origin_of c.args.gates.now) c.args.claim c.requires.untouched in
      let told = sent-by-run g.K.Behaviours.gives (origin_of c.args.gates.now) (pass_view run.new.registrar.pass).log (run_state c.args.claim)
      (run_state last) run.ensures.advances.same.who c.requires.untouched.recorded fresh run.ensures.in_run.running run.ensures.in_run.backlog
      run.ensures.advances.entries in
      let at_first = taken-begun g.K.Behaviours.gives (origin_of c.args.gates.now) c.args.claim c.requires.untouched in (
        journal,
        turn,
        leaves-run c.args.throughput c.args.claim last (pass_view c.args.registrar.now.pass) (pass_view c.register.new.self.pass) turn NoRoom
            taken run.ensures.advances.same
            run.ensures.in_run.run_counts run.ensures.within_limit tt tt tt run.ensures.in_run.running.only_drained saw goes_on
            (returns-in-Err-clause-caller_advances g c).share gives part due
            (pass_view run.new.registrar.pass) run.ensures.advances.sends kept puts given c.requires.untouched.recorded told fresh at_first
            run.ensures.in_run.running.settled.taken run.ensures.in_run.running.settled.open_keeps (λ ends. absurd ends),
        subst (λ (w : Identity). IsShortOfMemory w journal) run.ensures.advances.same.who
            (run.ensures.stops.out_of_memory (c.in-Err.is ∙ ap (λ (f : ReadyError). Err f) (same-fault c.in-Err.fault short))),
      );
}

pub returns-in-Ok-clause-none_left : goal.returns-in-Ok-clause-none_left
returns-in-Ok-clause-none_left g c id few =
    ap (λ (t : ToldView). has_actor t.set id) c.register.ensures.registers.told ∙ c.run_claim-outcome.ensures.none_left id few

pub returns-in-Err-clause-none_left : goal.returns-in-Err-clause-none_left
returns-in-Err-clause-none_left g c id few =
    ap (λ (t : ToldView). has_actor t.set id) c.register.ensures.registers.told ∙ c.run_claim-outcome.ensures.none_left id few
