use Rattle.std.proofs.Common.{◌<◌, inl, false, [], List, refl, sym, ap, ◌∙◌, subst, arith}
use Rattle.mb_gate.specs.Accessors.{pass_view}
use Rattle.mb_gate.specs.Untouched.{origin_of}
use Rattle.mb_gate.specs.View.{Observation}
use Rattle.mb_home.specs.Contents.{Contents}
use Rattle.mb_register.proofs.CallerLemmas.{account-none}
use Rattle.mb_register.proofs.ClaimCounts.{loses-handed}
use Rattle.mb_register.proofs.DueLemmas.{got-no-claim}
use Rattle.mb_register.proofs.MoveLemmas.{moves-does, further-moves}
use Rattle.mb_mailbox.proofs.ClaimLemmas.{further-noted, same-account}
use Rattle.mb_register.specs.Caller.{caller_of}
use Rattle.mb_register.proofs.ClaimCounts.{claims-then}
use Rattle.mb_register.proofs.ToldLemmas.{only-within}
use Rattle.mb_mailbox.specs.RunState.{run_state}
use Rattle.mb_mailbox.specs.Running.{IsRunning}
use Rattle.mb_mailbox.proofs.EmptiedLemmas.{cleared-same}
use Rattle.mb_mailbox.proofs.SendSystemLemmas.{running-caller_advances}
use Rattle.mb_mailbox.proofs.TellingLemmas.{running-own, told-below, log-closed, discharged-closed, cell-told, take-told, keeps-told, backlog-told, running-told_closed}
use Rattle.mb_mailbox.proofs.TellingLemmas.{running-sent, sent-moves, sent-then, sent-told}
use Rattle.mb_mailbox.proofs.RecordedLemmas.{
  alike-quiet,
  does-end-none,
  does-give-none,
  does-list,
  ended-tells,
  given-tells,
  listed-tells,
  sent-tells,
}
use Rattle.mb_mailbox.proofs.RunSendsLemmas.{due-none}
use Rattle.mb_mailbox.proofs.telling.tell.Goals as goal

-- ---- the registrar stays one of these gates

pub send-requires : goal.send-requires
send-requires g c = record {
  same_gates = c.requires.in_acts.same_gates.0;
  present = told-below _ _ _ _ _ _ c.requires.in_acts.running;
  settled = running-own _ _ _ _ (run_state c.args.claim.now) c.requires.in_acts.running;
}

pub note_told-requires : goal.note_told-requires
note_told-requires g c =
    let below = told-below _ _ _ _ _ _ c.requires.in_acts.running in record {
      same_gates = c.send.ensures.same_gates ∙ c.requires.in_acts.same_gates.0;
      present = (below, omega (arith, below, c.requires.in_acts.same_gates.2));
    }

pub returns-in_default-clause-in_acts : goal.returns-in_default-clause-in_acts
returns-in_default-clause-in_acts g c = record {
  same_gates =
      (c.send.ensures.same_gates ∙ c.requires.in_acts.same_gates.0, c.requires.in_acts.same_gates.1, c.requires.in_acts.same_gates.2, c.requires.in_acts.same_gates.3);
  running =
      let gives = g.K.Behaviours.gives in
      let origin = origin_of c.args.gates.now in
      let h = run_state c.args.claim.now in
      let new : Contents = c.send.new.home.value in
      subst (λ (l : List Observation). IsRunning gives origin new.cell.acts l (record h { home = new })) (sym (log-closed c.args.to.0 (pass_view c.args.registrar.now.pass) (pass_view c.send.new.pass) c.in_default.ensures.told.1))
      (running-told_closed gives origin (pass_view c.args.registrar.now.pass).log h c.args.to c.args.body new c.requires.in_acts.running c.send.ensures.settled
      c.in_default.ensures.told.0.is_dead_letter);
  backlog = backlog-told (run_state c.args.claim.now) c.send.new.home.value c.send.ensures.same c.requires.in_acts.backlog;
}

pub returns-clause-advances : goal.returns-clause-advances
returns-clause-advances g c = record {
  same = keeps-told (run_state c.args.claim.now) c.send.new.home.value c.send.ensures.same;
  caller_advances =
      let below = told-below _ _ _ _ _ _ c.requires.in_acts.running in
      let few : c.args.to.0 < 64 = omega (arith, below, c.requires.in_acts.same_gates.2) in
      let a = pass_view c.args.registrar.now.pass in let b = pass_view c.send.new.pass in let d = pass_view c.note_told.new.self.pass in
      let all = claims-then [] [] [] [] a b d c.send.ensures.claims c.note_told.ensures.only_reads.claims in
      further-noted c.args.to.0 (caller_of g.W.RunQueue.pushed g.W.RunQueue.refused c.args.registrar.now)
      (caller_of g.W.RunQueue.pushed g.W.RunQueue.refused c.note_told.new.self)
      (sent-moves c.args.to c.args.body c.in-Some._hint a d _ _
      (sent-then c.args.to c.args.body c.in-Some._hint a b d _ _ c.in-Some.ensures.told c.note_told.ensures.only_reads.looks))
      (same-account g.W.RunQueue.pushed g.W.RunQueue.refused _ _ _ _ c.note_told.ensures.rest.0 c.note_told.ensures.rest.1) few
      c.note_told.ensures.noted c.note_told.ensures.kept all;
  sends =
      let told = sent-then c.args.to c.args.body c.in-Some._hint _ (pass_view c.send.new.pass) _ _ _ c.in-Some.ensures.told c.note_told.ensures.only_reads.looks in
      alike-quiet _ _ _ _ refl (sent-tells c.args.to c.args.body _ _ _ _ c.in-Some._hint told)
      (listed-tells c.args.to c.args.body _ _ _ _ c.in-Some._hint told) (given-tells c.args.to c.args.body _ _ _ _ c.in-Some._hint told)
      (ended-tells c.args.to c.args.body _ _ _ _ c.in-Some._hint told);
}

pub returns-clause-in_acts : goal.returns-clause-in_acts
returns-clause-in_acts g c = record {
  same_gates = (
    c.note_told.ensures.only_reads.same_gates ∙ c.send.ensures.same_gates ∙ c.requires.in_acts.same_gates.0,
    ap g.W.RunQueue.origin c.note_told.ensures.rest.0 ∙ c.requires.in_acts.same_gates.1,
    c.requires.in_acts.same_gates.2,
    only-within c.args.to.0 _ _ c.note_told.ensures.only _ (told-below _ _ _ _ _ _ c.requires.in_acts.running) c.requires.in_acts.same_gates.3,
  );
  running =
      let gives = g.K.Behaviours.gives in
      let origin = origin_of c.args.gates.now in
      let h = run_state c.args.claim.now in
      let new : Contents = c.send.new.home.value in
      running-caller_advances gives origin new.cell.acts _ _ (record h { home = new }) (returns-clause-advances g c).caller_advances
      (running-sent gives origin (pass_view c.args.registrar.now.pass).log h c.args.to c.args.body c.requires.in_acts.running new c.send.ensures.settled
      c.in-Some._hint _ _ c.in-Some.ensures.told);
  backlog = backlog-told (run_state c.args.claim.now) c.send.new.home.value c.send.ensures.same c.requires.in_acts.backlog;
}

-- ---- the receiver was read closed

pub returns-in_default-clause-told : goal.returns-in_default-clause-told
returns-in_default-clause-told g c = inl c.in_default.ensures.told.0

pub returns-in_default-clause-left : goal.returns-in_default-clause-left
returns-in_default-clause-left g c = cell-told (run_state c.args.claim.now) c.send.new.home.value c.send.ensures.same

pub returns-in_default-clause-advances : goal.returns-in_default-clause-advances
returns-in_default-clause-advances g c = record {
  same = keeps-told (run_state c.args.claim.now) c.send.new.home.value c.send.ensures.same;
  caller_advances =
      further-moves c.args.to.0 _ _
      (moves-does c.args.to.0 _ [] (pass_view c.args.registrar.now.pass) (pass_view c.send.new.pass) (tt, tt) tt c.in_default.ensures.told.0.did)
      (account-none _)
      (inl (discharged-closed c.args.to.0 (pass_view c.args.registrar.now.pass) (pass_view c.send.new.pass) c.in_default.ensures.told.1))
      refl (loses-handed c.args.to.0 _ _ _ _ false (inl (refl, c.send.ensures.claims))) (got-no-claim _ _ c.send.ensures.claims.got);
  sends =
      alike-quiet _ _ _ _ refl c.in_default.ensures.told.0.did.sent_system (does-list c.args.to.0 _ [] _ _ c.in_default.ensures.told.0.did)
      (does-give-none c.args.to.0 _ [] _ _ refl c.in_default.ensures.told.0.did)
      (does-end-none c.args.to.0 _ [] _ _ (λ at. omega arith) c.in_default.ensures.told.0.did);
}

pub returns-in_default-clause-cleared : goal.returns-in_default-clause-cleared
returns-in_default-clause-cleared g c =
    let h = run_state c.args.claim.now in
    cleared-same h (record h { home = c.send.new.home.value }) refl (take-told h c.send.new.home.value c.send.ensures.same)

-- ---- it was read open: the envelope was queued, or refused

pub returns-clause-told : goal.returns-clause-told
returns-clause-told g c =
    sent-told c.args.to c.args.body c.in-Some._hint _ _ _ _
    (sent-then c.args.to c.args.body c.in-Some._hint _ (pass_view c.send.new.pass) _ _ _ c.in-Some.ensures.told c.note_told.ensures.only_reads.looks)

pub returns-clause-left : goal.returns-clause-left
returns-clause-left g c = cell-told (run_state c.args.claim.now) c.send.new.home.value c.send.ensures.same

pub returns-clause-cleared : goal.returns-clause-cleared
returns-clause-cleared g c =
    let h = run_state c.args.claim.now in
    cleared-same h (record h { home = c.send.new.home.value }) refl (take-told h c.send.new.home.value c.send.ensures.same)

-- ---- no system message was sent

pub returns-in_default-clause-due : goal.returns-in_default-clause-due
returns-in_default-clause-due g c =
    let h = run_state c.args.claim.now in
    due-none h (record h { home = c.send.new.home.value }) refl refl (ap (λ (x : Contents). x.rest) c.send.ensures.same) (λ shut. shut)

pub returns-clause-due : goal.returns-clause-due
returns-clause-due g c =
    let h = run_state c.args.claim.now in
    due-none h (record h { home = c.send.new.home.value }) refl refl (ap (λ (x : Contents). x.rest) c.send.ensures.same) (λ shut. shut)
